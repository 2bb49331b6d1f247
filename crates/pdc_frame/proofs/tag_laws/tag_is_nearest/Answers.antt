use Rattle.std.proofs.Common.{ℕ, subst, arith}
use Rattle.pdc_frame.specs.Tag.{IsTag, tag_of}
use Rattle.pdc_frame.proofs.TagLemmas.{IsTag-tag_of, unique_tag, count_below, tag_of-IsTag}
use Rattle.pdc_frame.proofs.tag_laws.tag_is_nearest.Goals as goal

pub returns-clause-computed : goal.returns-clause-computed
returns-clause-computed c i time_base rate soc frac some =
    (λ same. subst (λ (t : ℕ × ℕ). IsTag i time_base rate t.0 t.1) same (IsTag-tag_of i time_base rate some), tag_of-IsTag i time_base rate soc frac some)

pub returns-clause-exists : goal.returns-clause-exists
returns-clause-exists c i time_base rate some = ((tag_of i time_base rate).0, (tag_of i time_base rate).1, IsTag-tag_of i time_base rate some)

pub returns-clause-unique : goal.returns-clause-unique
returns-clause-unique c = unique_tag

pub returns-clause-count : goal.returns-clause-count
returns-clause-count c i time_base rate soc frac long tag = count_below i time_base rate soc frac (omega arith) tag
