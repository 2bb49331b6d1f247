use Rattle.std.proofs.Common.{arith}
use Rattle.pdc_words.proofs.WordSteps.{step_then}
use Rattle.pdc_words.proofs.crc.after_rest.Goals as goal

pub returns : goal.returns
returns c = record {
  step = λ check h. step_then c.args.state c.moved_up.result c.read_step.result c.after_last-2.result check c.args.place c.args.bytes.now (λ i. omega (arith, c.type_inv.bytes i))
      (omega (arith, c.if-bytes-place-lt-STEP.false, c.requires.place)) h c.moved_up.ensures c.read_step.ensures c.after_last-2.ensures.step;
}
