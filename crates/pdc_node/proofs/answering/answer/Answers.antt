use Rattle.std.proofs.Common.{◌∙◌, List, ap, map, sym}
use Rattle.std.specs.Prelude.{option_map}
use Rattle.pdc_life.specs.Arrival.{Layout}
use Rattle.pdc_life.specs.Given.{count_for}
use Rattle.pdc_life.specs.Node.{node_answer}
use Rattle.pdc_arrival.specs.Views.{arrival_view, section_part, stamp_view}
use Rattle.pdc_arrival.specs.declared.arrival.Arrival.{Arrival}
use Rattle.pdc_arrival.specs.declared.arrival.ColumnSection.{ColumnSection}
use Rattle.pdc_align.specs.Align.{is_left}
use Rattle.pdc_node.proofs.answering.answer.Goals as goal

pub returns-in-BytesRefused-clause-stands : goal.returns-in-BytesRefused-clause-stands
returns-in-BytesRefused-clause-stands g c life E bytes stands opening run =
    c.others_are_left.ensures life E c.args.alignment.now.state c.args.stream bytes (arrival_view c.args.arrival.now) (node_answer life E c.args.stream (arrival_view c.args.arrival.now)) stands
    (ap (λ (a : Arrival). is_left (node_answer life E c.args.stream (arrival_view a)).outcome) c.in-BytesRefused.is) run

pub returns-in-Layout-clause-answer : goal.returns-in-Layout-clause-answer
returns-in-Layout-clause-answer g c life E stands opening =
    c.answer_layout.ensures.answer life E (option_map stamp_view c.in-Layout.stamp) stands (c.count_for.ensures ∙ ap (count_for c.args.stream) opening)
    ∙ ap (λ (sections : List ColumnSection). (node_answer life E c.args.stream (Layout (option_map stamp_view c.in-Layout.stamp) (map section_part sections))).outcome) c.deref.ensures.0
    ∙ ap (λ (arrival : Arrival). (node_answer life E c.args.stream (arrival_view arrival)).outcome) (sym c.in-Layout.is)
