use Rattle.std.proofs.Common.{arith}
use Rattle.pdc_frame.proofs.SlotLemmas.{instant_of-IsInstant}
use Rattle.pdc_frame.proofs.TagLemmas.{IsInstant-IsTag, instant_of-tag_of}
use Rattle.pdc_frame.proofs.tag_laws.tag_comes_back.Goals as goal

pub returns-clause-by_nearness : goal.returns-clause-by_nearness
returns-clause-by_nearness c i time_base rate soc frac long tag = IsInstant-IsTag i time_base rate soc frac (omega arith) tag

pub returns-clause-of_any_tag : goal.returns-clause-of_any_tag
returns-clause-of_any_tag c i time_base rate soc frac long tag =
    instant_of-IsInstant soc frac time_base rate i (IsInstant-IsTag i time_base rate soc frac long tag)

pub returns-clause-of_tag_of : goal.returns-clause-of_tag_of
returns-clause-of_tag_of c = instant_of-tag_of
