use Rattle.std.proofs.Common.{arith, max}
use Rattle.pdc_life.specs.Answer.{is_ready}
use Rattle.pdc_life.specs.Given.{count_for}
use Rattle.pdc_life.specs.Life.{cleared_count, held_section, section_in_force}
use Rattle.pdc_plain_steps.specs.Views.{given_view, life_view}
use Rattle.pdc_plain_steps.proofs.Ranges.{one_more_wanted}
use Rattle.pdc_plain_steps.proofs.ticking.ready_columns.Goals as goal

pub loop-column-preserved : goal.loop-column-preserved
loop-column-preserved c =
    let g = given_view c.args.given.now in
    let E = life_view c.args.life.now in
    one_more_wanted (λ p. is_ready (held_section g E p) (section_in_force g E p) (max (cleared_count g E p) (count_for p c.args.counts.now))) c.loop-column.column c.args.given.now.columns _ _ _ _ (omega arith)
    c.is_ready_column-ready.ensures c.in_ok-push_ready.ensures c.loop-column.invariant
