use Rattle.std.proofs.Common.{arith}
use Rattle.pdc_words.proofs.Powers.{quotient_found}
use Rattle.pdc_words.proofs.crc.quotient.Goals as goal

pub returns : goal.returns
returns c = quotient_found 16 44 64 c.args.state c.ranges.state.fits (omega arith) (omega arith) (omega arith)
