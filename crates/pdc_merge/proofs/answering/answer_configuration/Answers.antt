use Rattle.std.proofs.Common.{List, Option, ap, length, map, subst, sym}
use Rattle.std.specs.Prelude.{option_map}
use Rattle.pdc_life.specs.Arrival.{Layout}
use Rattle.pdc_life.specs.Merger.{merged_answer}
use Rattle.pdc_arrival.specs.Views.{section_part, stamp_view}
use Rattle.pdc_arrival.specs.declared.arrival.Stamp.{Stamp}
use Rattle.pdc_align.specs.Align.{is_left}
use Rattle.pdc_merge.specs.Held.{AreAllInPlace, AreInPlace, LayoutView, LayoutsView}
use Rattle.pdc_merge.specs.declared.held_layout.HeldSection.{HeldSection}
use Rattle.pdc_merge.proofs.Lives.{held_in_place, kept_in_place}
use Rattle.pdc_merge.proofs.answering.answer_configuration.Goals as goal

pub returns-in_default-clause-stands : goal.returns-in_default-clause-stands
returns-in_default-clause-stands g c life E bytes stands held run =
    let parts = map section_part c.args.sections.now in
    c.others_are_left.ensures life E c.args.alignment.now.state c.args.stream bytes (Layout (option_map stamp_view c.args.stamp) parts) (merged_answer life E c.args.stream (Layout (option_map stamp_view c.args.stamp) parts)) stands
    (ap (λ (stamp : Option Stamp). is_left (merged_answer life E c.args.stream (Layout (option_map stamp_view stamp) parts)).outcome) c.in_default.is) run

pub returns-then-is_candidate-clause-in_place : goal.returns-then-is_candidate-clause-in_place
returns-then-is_candidate-clause-in_place g c =
    let n = length c.args.alignment.now.state.columns in
    let parts = map section_part c.args.sections.now in
    let place : AreInPlace n c.new.result.sections =
    subst (λ (ss : List HeldSection). AreInPlace n ss) (sym (ap (λ (l : LayoutView). l.sections) c.new.ensures)) (kept_in_place n parts c.requires.placed.rise c.requires.placed.exist) in
    subst (λ (held : LayoutsView). AreAllInPlace n held) (sym c.hold.ensures)
    (held_in_place n c.args.layouts.now c.args.stream c.new.result c.requires.in_place place)
