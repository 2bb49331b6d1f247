use Rattle.std.proofs.Common.{length}
use mathlib.Core.Logic.{inl}
use Rattle.pdc_keys.proofs.Wants.{on_err}
use Rattle.pdc_keys.proofs.finding.unknown_of.Goals as goal

pub returns-in_err-name-clause-wanted : goal.returns-in_err-name-clause-wanted
returns-in_err-name-clause-wanted c = on_err c.from_residual-in_err-name.result (inl ∣ (length c.args.key.now, c.in_err-name.ensures.refused) ∣₁)
