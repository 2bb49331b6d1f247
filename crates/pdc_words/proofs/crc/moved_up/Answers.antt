use Rattle.std.proofs.Common.{refl}
use Rattle.pdc_words.specs.CheckWord.{times_generator}
use Rattle.pdc_words.proofs.Powers.{moved_up_congruent, fourth_power}
use Rattle.pdc_words.proofs.crc.moved_up.Goals as goal

pub returns : goal.returns
returns c = moved_up_congruent 20 48 64 16 44 c.args.state c.quotient-quotient.result (times_generator (times_generator (times_generator c.quotient-quotient.result))) refl refl c.quotient-quotient.type_inv c.quotient-quotient.ensures (fourth_power c.quotient-quotient.result)
