use mathlib.Core.Logic.{inl}
use Rattle.pdc_keys.proofs.Wants.{on_err}
use Rattle.pdc_keys.proofs.finding.push_key.Goals as goal

pub returns-in_err-make_room-clause-wanted : goal.returns-in_err-make_room-clause-wanted
returns-in_err-make_room-clause-wanted c = on_err c.from_residual-in_err-make_room.result (inl ∣ (1, c.in_err-make_room.ensures.refused) ∣₁)
