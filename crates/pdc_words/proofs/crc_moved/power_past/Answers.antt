use Rattle.std.proofs.Common.{arith}
use Rattle.pdc_words.proofs.LinearLemmas.{power_first, power_step, power_byte, power_last}
use Rattle.pdc_words.proofs.crc_moved.power_past.Goals as goal

pub loop-left-init : goal.loop-left-init
loop-left-init c = (omega arith, power_first c.args.count)

pub loop-left-preserved : goal.loop-left-preserved
loop-left-preserved c = (
  omega (arith, c.loop-left.invariant.0),
  power_step 8 _ _ c.args.count c.loop-left.left (omega (arith, c.loop-left-test.true)) c.loop-left.invariant.0 c.loop-left.invariant.1 c.moved_up-state.ensures,
)

pub loop-left-2-preserved : goal.loop-left-2-preserved
loop-left-2-preserved c = (
  omega (arith, c.loop-left-2.invariant.0),
  power_byte _ _ c.args.count c.loop-left-2.left (omega (arith, c.loop-left-2-test.true)) c.loop-left-2.invariant.0 c.loop-left-2.invariant.1 c.moved_up.ensures,
)

pub returns : goal.returns
returns c = power_last _ _ c.args.count c.loop-left-2.left (omega (arith, c.loop-left-2-test.false)) c.loop-left-2.invariant.1 c.check_of_state.ensures
