use Rattle.std.proofs.Common.{arith}
use Rattle.pdc_words.proofs.WordSteps.{last_step}
use Rattle.pdc_words.proofs.crc.after_last.Goals as goal

pub returns : goal.returns
returns c = record {
  step = λ check h. last_step c.args.state _ _ check c.args.place c.args.bytes.now (λ i. omega (arith, c.type_inv.bytes i)) c.requires.place c.requires.few h c.moved_up.ensures c.read_last.ensures;
}
