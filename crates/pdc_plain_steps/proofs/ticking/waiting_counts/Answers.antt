use Rattle.std.proofs.Common.{◌∙◌, ap, arith}
use Rattle.pdc_life.specs.Answer.{greatest_count}
use Rattle.pdc_life.specs.Life.{cleared_count, held_section}
use Rattle.pdc_plain_steps.specs.Views.{given_view, life_view}
use Rattle.pdc_plain_steps.proofs.Ranges.{one_more_set}
use Rattle.pdc_plain_steps.proofs.ticking.waiting_counts.Goals as goal

pub loop-column-preserved : goal.loop-column-preserved
loop-column-preserved c =
    let g = given_view c.args.given.now in
    let E = life_view c.args.life.now in
    one_more_set (λ p. greatest_count (cleared_count g E p) (held_section g E p)) c.loop-column.column 16 _ _ (omega arith)
    (c.greatest_count.ensures ∙ ap (λ s. greatest_count c.cleared_count-cleared.result s) c.held_section.ensures ∙ ap (λ n. greatest_count n (held_section g E c.loop-column.column)) c.cleared_count-cleared.ensures)
    c.loop-column.invariant
