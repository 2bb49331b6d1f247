use Rattle.std.proofs.Common.{◌≡◌, ◌∷◌, ◌∙◌, ap, rules, subst, sym}
use Rattle.std.specs.Prelude.{option_map}
use Rattle.pdc_cfg.specs.Section.{fields_of_view}
use Rattle.pdc_life.specs.Answer.{bare}
use Rattle.pdc_life.specs.Arrival.{Layout}
use Rattle.pdc_life.specs.Life.{Answer, Arrive}
use Rattle.pdc_life.specs.Node.{node_answer}
use Rattle.pdc_life.specs.Run.{IsRun}
use Rattle.pdc_arrival.specs.Views.{section_part}
use Rattle.std.proofs.Common.{map}
use Rattle.pdc_align.specs.Align.{StandsFor, is_left}
use Rattle.pdc_node.proofs.Answers.{is_new, one_answer, only_one, section_left}
use Rattle.pdc_node.proofs.answering.answer_layout.Goals as goal

pub returns-then-is_candidate-clause-answer : goal.returns-then-is_candidate-clause-answer
returns-then-is_candidate-clause-answer g c life E stamp stands opening =
    let s = c.only-item.result in
    ap (λ (a : Answer). a.outcome)
    (one_answer life E c.args.stream s.column c.args.opening (option_map fields_of_view c.held.result) (fields_of_view s.section) stamp (map section_part c.args.sections.now) c.section_answer-outcome.result
    (only_one c.args.sections.now s (search rules) (search rules) c.only-item.is) opening (c.held.ensures.life life E stands) c.section_answer-outcome.ensures)

pub returns-then-is_candidate-clause-stands : goal.returns-then-is_candidate-clause-stands
returns-then-is_candidate-clause-stands g c life E bytes stamp stands opening run =
    let s = c.only-item.result in
    let parts = map section_part c.args.sections.now in
    let is : bare c.section_answer-outcome.result ≡ node_answer life E c.args.stream (Layout stamp parts) =
    one_answer life E c.args.stream s.column c.args.opening (option_map fields_of_view c.held.result) (fields_of_view s.section) stamp parts c.section_answer-outcome.result
    (only_one c.args.sections.now s (search rules) (search rules) c.only-item.is) opening (c.held.ensures.life life E stands) c.section_answer-outcome.ensures in
    let new : bare _ ≡ node_answer life E c.args.stream (Layout stamp parts) = sym (ap bare (is_new c.section_answer-outcome.result (sym c.is_candidate.ensures ∙ c.if-is_candidate.true))) ∙ is in
    subst (λ (answer : Answer). StandsFor life (Arrive c.args.stream bytes (Layout stamp parts) answer ∷ E) c.hold.new.self.state) new
    (c.hold.ensures.stands life E c.args.stream bytes stamp stands
    (subst (λ (answer : Answer). IsRun life (Arrive c.args.stream bytes (Layout stamp parts) answer ∷ E)) (sym new) run))

pub returns-else-is_candidate-clause-answer : goal.returns-else-is_candidate-clause-answer
returns-else-is_candidate-clause-answer g c life E stamp stands opening =
    let s = c.only-item.result in
    ap (λ (a : Answer). a.outcome)
    (one_answer life E c.args.stream s.column c.args.opening (option_map fields_of_view c.held.result) (fields_of_view s.section) stamp (map section_part c.args.sections.now) c.section_answer-outcome.result
    (only_one c.args.sections.now s (search rules) (search rules) c.only-item.is) opening (c.held.ensures.life life E stands) c.section_answer-outcome.ensures)

pub returns-else-is_candidate-clause-stands : goal.returns-else-is_candidate-clause-stands
returns-else-is_candidate-clause-stands g c life E bytes stamp stands opening run =
    let s = c.only-item.result in
    let parts = map section_part c.args.sections.now in
    let is : bare c.section_answer-outcome.result ≡ node_answer life E c.args.stream (Layout stamp parts) =
    one_answer life E c.args.stream s.column c.args.opening (option_map fields_of_view c.held.result) (fields_of_view s.section) stamp parts c.section_answer-outcome.result
    (only_one c.args.sections.now s (search rules) (search rules) c.only-item.is) opening (c.held.ensures.life life E stands) c.section_answer-outcome.ensures in
    c.others_are_left.ensures life E c.args.alignment.now.state c.args.stream bytes (Layout stamp parts) (node_answer life E c.args.stream (Layout stamp parts)) stands
    (ap (λ (a : Answer). is_left a.outcome) (sym is)
    ∙ section_left c.args.opening (option_map fields_of_view c.held.result) (fields_of_view s.section) c.section_answer-outcome.result c.section_answer-outcome.ensures
    (sym c.is_candidate.ensures ∙ c.if-is_candidate.false)) run
