use Rattle.std.proofs.Common.{arith}
use Rattle.pdc_words.proofs.WordSteps.{last_push}
use Rattle.pdc_words.proofs.crc.read_few.Goals as goal

pub loop-byte-preserved : goal.loop-byte-preserved
loop-byte-preserved c = last_push _ _ _ c.args.bytes.now (λ i. omega (arith, c.type_inv.bytes i)) c.requires c.loop-byte-test.true c.loop-byte.invariant c.from.ensures
