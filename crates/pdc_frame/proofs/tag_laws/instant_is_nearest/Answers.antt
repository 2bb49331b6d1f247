use Rattle.pdc_frame.proofs.SlotLemmas.{instant_of-IsInstant, IsInstant-instant_of, instant_of-none}
use Rattle.pdc_frame.proofs.tag_laws.instant_is_nearest.Goals as goal

pub returns-clause-computed : goal.returns-clause-computed
returns-clause-computed c soc frac time_base rate i = (IsInstant-instant_of soc frac time_base rate i, instant_of-IsInstant soc frac time_base rate i)

pub returns-clause-none : goal.returns-clause-none
returns-clause-none c = instant_of-none
