use Rattle.std.proofs.Common.{◌∙◌, List, ap, map, sym}
use Rattle.std.specs.Prelude.{option_map}
use Rattle.pdc_life.specs.Arrival.{Layout}
use Rattle.pdc_life.specs.Node.{node_answer}
use Rattle.pdc_plain_steps.specs.Views.{given_view, life_view}
use Rattle.pdc_arrival.specs.Views.{arrival_view, section_part, stamp_view}
use Rattle.pdc_arrival.specs.declared.arrival.Arrival.{Arrival}
use Rattle.pdc_arrival.specs.declared.arrival.ColumnSection.{ColumnSection}
use Rattle.pdc_plain.proofs.node.node_answer.Goals as goal

pub returns-in-Layout : goal.returns-in-Layout
returns-in-Layout c =
    let g = given_view c.args.given.now in
    let E = life_view c.args.life.now in
    let p = c.args.stream in
    c.bare-in-Layout.ensures ∙ c.layout_outcome.ensures (option_map stamp_view c.in-Layout.stamp)
    ∙ ap (λ (sections : List ColumnSection). node_answer g E p (Layout (option_map stamp_view c.in-Layout.stamp) (map section_part sections))) c.deref.ensures.0
    ∙ ap (λ (arrival : Arrival). node_answer g E p (arrival_view arrival)) (sym c.in-Layout.is)
