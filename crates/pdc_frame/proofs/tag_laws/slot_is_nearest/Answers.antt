use Rattle.pdc_frame.proofs.SlotLemmas.{slot_of-IsSlot, IsSlot-slot_of, slot_of-none}
use Rattle.pdc_frame.proofs.tag_laws.slot_is_nearest.Goals as goal

pub returns-clause-computed : goal.returns-clause-computed
returns-clause-computed c frac time_base rate k = (IsSlot-slot_of frac time_base rate k, slot_of-IsSlot frac time_base rate k)

pub returns-clause-none : goal.returns-clause-none
returns-clause-none c = slot_of-none
