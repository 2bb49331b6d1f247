use Rattle.std.proofs.Common.{arith}
use Rattle.std.proofs.lemmas.List.Edits.{map_over_more}
use Rattle.pdc_table.specs.pdc_open_row.Taking.{without_column}
use Rattle.try_script.proofs.rows.drop_column.Goals as goal

pub loop-row-preserved : goal.loop-row-preserved
loop-row-preserved c =
    rw (c.drop_column.ensures, ← c.row-item.is)
    (map_over_more (without_column c.args.column) c.deref_mut-row-items.result.now c.loop-row.row-items c.loop-row.row-index c.row-item.result
    (omega arith) c.loop-row.invariant c.row-item.is)
