use Rattle.std.proofs.Common.{◌≡◌, ◌∙◌, refl, sym}
use Rattle.std.specs.Prelude.{true, false}
use Rattle.pdc_simulation.proofs.Taking.{for_ok}
use Rattle.pdc_simulation.proofs.handing.send_number.Goals as goal

pub returns-else-run-clause-ok : goal.returns-else-run-clause-ok
returns-else-run-clause-ok g c = for_ok c.send_words-else-run.result (λ taken. (_, (λ e. refl, λ e. let no : true ≡ false = sym e ∙ c.if-run.false in cc), taken)) c.send_words-else-run.ensures.ok
