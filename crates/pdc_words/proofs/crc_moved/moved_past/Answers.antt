use Rattle.std.proofs.Common.{arith}
use Rattle.pdc_words.proofs.LinearLemmas.{product_first, product_step, product_last}
use Rattle.pdc_words.proofs.crc_moved.moved_past.Goals as goal

pub loop-bit-init : goal.loop-bit-init
loop-bit-init c = (omega arith, product_first c.args.difference c.args.power c.ranges.difference.fits)

pub loop-bit-preserved : goal.loop-bit-preserved
loop-bit-preserved c = (
  omega (arith, c.loop-bit.invariant.0),
  product_step c.args.difference c.args.power _ c.loop-bit.bit _ (omega (arith, c.loop-bit-test.true)) c.loop-bit.invariant.0 c.ranges.power.fits c.bit_times.ensures c.loop-bit.invariant.1,
)

pub returns : goal.returns
returns c = λ count h. product_last c.args.difference c.args.power _ c.loop-bit.bit _ count c.ranges.difference.fits (omega (arith, c.loop-bit-test.false)) c.loop-bit.invariant.1 h c.check_of_state.ensures
