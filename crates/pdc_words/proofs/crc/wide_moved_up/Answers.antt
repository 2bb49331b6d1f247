use Rattle.std.proofs.Common.{refl}
use Rattle.pdc_words.specs.CheckWord.{times_generator}
use Rattle.pdc_words.proofs.Powers.{product, moved_up_congruent, eighth_power}
use Rattle.pdc_words.proofs.crc.wide_moved_up.Goals as goal

pub returns : goal.returns
returns c = moved_up_congruent 40 96 128 32 88 c.args.state c.wide_quotient-quotient.result (times_generator (times_generator (times_generator (product 20 48 64 c.wide_quotient-quotient.result)))) refl refl c.wide_quotient-quotient.type_inv c.wide_quotient-quotient.ensures (eighth_power c.wide_quotient-quotient.result)
