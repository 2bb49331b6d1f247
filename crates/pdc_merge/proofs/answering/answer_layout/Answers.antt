use Rattle.std.proofs.Common.{◌≡◌, ◌∷◌, ◌∙◌, ap, map, subst, sym, length, Some}
use Rattle.std.specs.Prelude.{option_map}
use Rattle.pdc_life.specs.Answer.{bare}
use Rattle.pdc_life.specs.Arrival.{Arrival, Layout}
use Rattle.pdc_life.specs.Life.{Answer, Arrive}
use Rattle.pdc_life.specs.Merger.{has_count_conflict, held_layout, layout_answer}
use Rattle.pdc_life.specs.Run.{IsRun}
use Rattle.pdc_life.specs.declared.outcome.Outcome.{Outcome}
use Rattle.pdc_arrival.specs.Views.{section_part, stamp_view}
use Rattle.pdc_align.specs.Align.{StandsFor}
use Rattle.pdc_merge.proofs.ByLayout.{columns_are, is_new, layout_left, layout_same}
use Rattle.pdc_merge.proofs.Lives.{at_stream}
use Rattle.pdc_merge.proofs.answering.answer_layout.Goals as goal

pub hold-requires : goal.hold-requires
hold-requires g c = columns_are (length c.args.alignment.now.state.columns) c.args.sections.now c.requires

pub returns-then-is_candidate-clause-answer : goal.returns-then-is_candidate-clause-answer
returns-then-is_candidate-clause-answer g c life E stands held two =
    layout_same c.columns_stand.ensures life E c.args.alignment.now.state c.args.stream (option_map stamp_view c.args.held) (stamp_view c.args.stamp) (map section_part c.args.sections.now)
    c.has_count_conflict-conflicts.result c.layout_answer-outcome.result stands c.requires (at_stream E c.args.stream two) held c.has_count_conflict-conflicts.ensures c.layout_answer-outcome.ensures

pub returns-else-is_candidate-clause-answer : goal.returns-else-is_candidate-clause-answer
returns-else-is_candidate-clause-answer g c life E stands held two =
    layout_same c.columns_stand.ensures life E c.args.alignment.now.state c.args.stream (option_map stamp_view c.args.held) (stamp_view c.args.stamp) (map section_part c.args.sections.now)
    c.has_count_conflict-conflicts.result c.layout_answer-outcome.result stands c.requires (at_stream E c.args.stream two) held c.has_count_conflict-conflicts.ensures c.layout_answer-outcome.ensures

pub returns-then-is_candidate-clause-stands : goal.returns-then-is_candidate-clause-stands
returns-then-is_candidate-clause-stands g c life E bytes stands held two run =
    let parts = map section_part c.args.sections.now in
    let layout : Arrival = Layout (Some (stamp_view c.args.stamp)) parts in
    let outcome : Outcome = layout_answer (held_layout E c.args.stream) (stamp_view c.args.stamp) (has_count_conflict life E parts) in
    let is : c.layout_answer-outcome.result ≡ outcome =
    layout_same c.columns_stand.ensures life E c.args.alignment.now.state c.args.stream (option_map stamp_view c.args.held) (stamp_view c.args.stamp) (map section_part c.args.sections.now)
    c.has_count_conflict-conflicts.result c.layout_answer-outcome.result stands c.requires (at_stream E c.args.stream two) held c.has_count_conflict-conflicts.ensures c.layout_answer-outcome.ensures in
    let new : bare _ ≡ bare outcome = sym (ap bare (is_new c.layout_answer-outcome.result (sym c.is_candidate.ensures ∙ c.if-is_candidate.true))) ∙ ap bare is in
    subst (λ (answer : Answer). StandsFor life (Arrive c.args.stream bytes layout answer ∷ E) c.hold.new.self.state) new
    (c.hold.ensures.stands life E c.args.stream bytes (Some (stamp_view c.args.stamp)) stands
    (subst (λ (answer : Answer). IsRun life (Arrive c.args.stream bytes layout answer ∷ E)) (sym new) run))

pub returns-else-is_candidate-clause-stands : goal.returns-else-is_candidate-clause-stands
returns-else-is_candidate-clause-stands g c life E bytes stands held two run =
    let parts = map section_part c.args.sections.now in
    let layout : Arrival = Layout (Some (stamp_view c.args.stamp)) parts in
    let outcome : Outcome = layout_answer (held_layout E c.args.stream) (stamp_view c.args.stamp) (has_count_conflict life E parts) in
    let is : c.layout_answer-outcome.result ≡ outcome =
    layout_same c.columns_stand.ensures life E c.args.alignment.now.state c.args.stream (option_map stamp_view c.args.held) (stamp_view c.args.stamp) (map section_part c.args.sections.now)
    c.has_count_conflict-conflicts.result c.layout_answer-outcome.result stands c.requires (at_stream E c.args.stream two) held c.has_count_conflict-conflicts.ensures c.layout_answer-outcome.ensures in
    c.others_are_left.ensures life E c.args.alignment.now.state c.args.stream bytes layout (bare outcome) stands
    (layout_left (held_layout E c.args.stream) (stamp_view c.args.stamp) (has_count_conflict life E parts) c.layout_answer-outcome.result is (sym c.is_candidate.ensures ∙ c.if-is_candidate.false)) run
