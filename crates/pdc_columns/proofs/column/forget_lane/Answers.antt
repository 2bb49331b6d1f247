use Rattle.std.proofs.Common.{arith, get_or}
use Rattle.std.proofs.lemmas.List.{get_or_default}
use Rattle.std.proofs.lemmas.List.Edits.{map_over_more}
use Rattle.pdc_columns.specs.ColumnParts.{nothing, without_lane}
use Rattle.pdc_columns.proofs.column.forget_lane.Goals as goal

pub loop-held-preserved : goal.loop-held-preserved
loop-held-preserved c =
    rw c.clear.ensures
    (map_over_more (without_lane c.args.lane) c.args.held.now c.loop-held.held c.loop-held.held-index (get_or c.loop-held.held c.loop-held.held-index nothing)
    (omega arith) c.loop-held.invariant
    (get_or_default c.loop-held.held c.loop-held.held-index nothing (get_or c.loop-held.held c.loop-held.held-index nothing) (omega (arith, c.loop-held.auto.held))))
