use Rattle.pdc_life.proofs.SameCount.{same_count_same_section}
use Rattle.pdc_life.proofs.laws.same_count_is_same_section.Goals as goal

pub returns : goal.returns
returns c settings g E s n layout t u life held among in_force same = same_count_same_section settings g E s n layout t u life held among in_force same
