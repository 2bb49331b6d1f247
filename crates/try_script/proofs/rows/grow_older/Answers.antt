use Rattle.std.proofs.Common.{arith}
use Rattle.std.proofs.lemmas.List.Edits.{map_over_more}
use Rattle.pdc_table.specs.Closing.{aged}
use Rattle.try_script.proofs.rows.grow_older.Goals as goal

pub loop-row-preserved : goal.loop-row-preserved
loop-row-preserved c =
    rw (c.grow_older.ensures, ← c.row-item.is)
    (map_over_more aged c.deref_mut-row-items.result.now c.loop-row.row-items c.loop-row.row-index c.row-item.result
    (omega arith) c.loop-row.invariant c.row-item.is)
