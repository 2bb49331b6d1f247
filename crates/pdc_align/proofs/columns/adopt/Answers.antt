use Rattle.std.proofs.Common.{arith}
use Rattle.std.proofs.lemmas.List.Edits.{map_over_more}
use Rattle.pdc_align.specs.Calls.{with_adoption}
use Rattle.pdc_align.proofs.columns.adopt.Goals as goal

pub loop-column-preserved : goal.loop-column-preserved
loop-column-preserved c =
    rw (c.adopt.ensures, ← c.column-item.is)
    (map_over_more with_adoption c.args.columns.now c.loop-column.columns c.loop-column.column-index c.column-item.result
    (omega arith) c.loop-column.invariant c.column-item.is)
