use Rattle.std.proofs.Common.{arith}
use Rattle.pdc_words.proofs.WordSteps.{back_of_word}
use Rattle.pdc_words.proofs.crc.read_last.Goals as goal

pub returns : goal.returns
returns c = back_of_word _ c.args.place c.args.bytes.now (λ i. omega (arith, c.type_inv.bytes i)) c.requires.place c.requires.few c.requires.long c.read_step.ensures
