use Rattle.std.proofs.Common.{sym, ◌∙◌}
use Rattle.pdc_any_mark.proofs.Same.{same_slot}
use Rattle.pdc_any_mark.proofs.any_mark.AnyMark.forget_counts.Goals as goal

pub returns-then-eq-clause-forgotten : goal.returns-then-eq-clause-forgotten
returns-then-eq-clause-forgotten g c = sym c.in-Ok.ensures.same ∙ (same_slot c.in-Ok.mark c.without_counts.result _ c.if-eq.ensures ∙ c.without_counts.ensures)
