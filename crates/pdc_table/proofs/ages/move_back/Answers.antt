use Rattle.std.proofs.Common.{◌∙◌, ap, arith, get_or, set}
use Rattle.std.proofs.lemmas.List.{get_or_default}
use Rattle.std.proofs.lemmas.List.Edits.{map_over_more}
use Rattle.pdc_table.specs.AgesView.{earlier}
use Rattle.pdc_table.proofs.ages.move_back.Goals as goal

pub loop-since-preserved : goal.loop-since-preserved
loop-since-preserved c =
    ap (set c.loop-since.counts c.loop-since.since-index) c.saturating_sub.ensures
    ∙ map_over_more earlier c.args.counts.now c.loop-since.counts c.loop-since.since-index (get_or c.loop-since.counts c.loop-since.since-index 0)
    (omega (arith, c.loop-since-test.true)) c.loop-since.invariant
    (get_or_default c.loop-since.counts c.loop-since.since-index 0 (get_or c.loop-since.counts c.loop-since.since-index 0) (omega (arith, c.loop-since.auto.counts)))
