use Rattle.std.proofs.Common.{ap, ◌∙◌}
use Rattle.pdc_table.specs.Steps as table
use Rattle.pdc_align.specs.Align.{State}
use Rattle.pdc_align.proofs.Follows.{pop_follows}
use Rattle.pdc_align.proofs.alignment.Alignment.pop_into.Goals as goal

pub returns-clause-answer : goal.returns-clause-answer
returns-clause-answer g c life E stands = c.take_into.ensures.answer ∙ ap (λ (a : State). table.pop_answer a.content) stands.same

pub returns-clause-stands : goal.returns-clause-stands
returns-clause-stands g c life E stands = pop_follows life E c.args.self.now.state c.take_into.new.self.state c.take_into.ensures.state stands
