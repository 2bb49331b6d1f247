use Rattle.std.proofs.Common.{◌∙◌, ap, option_map, sym}
use Rattle.pdc_merge.proofs.InForce.{of_node}
use Rattle.pdc_merge.proofs.answering.answer_data.Goals as goal

pub answer_under-requires-clause-in_force : goal.answer_under-requires-clause-in_force
answer_under-requires-clause-in_force g c =
    c.of-in-Some.ensures
    ∙ of_node c.args.alignment.now.state c.args.layouts.now c.args.stream c.in-Some.layout.now c.args.in_force c.requires.known
    (sym (ap (option_map (λ l. l.now)) c.in-Some.is) ∙ c.of.ensures)
