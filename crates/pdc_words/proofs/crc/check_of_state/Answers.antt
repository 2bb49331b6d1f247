use Rattle.pdc_words.proofs.Powers.{check_of_state_remainder}
use Rattle.pdc_words.proofs.crc.check_of_state.Goals as goal

pub returns : goal.returns
returns c = check_of_state_remainder c.args.state c.quotient-half.result c.quotient-half.ensures
