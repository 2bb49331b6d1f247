use Rattle.std.proofs.Common.{ℕ, ◌+◌, ◌*◌, ◌^◌, take, fold, bit_xor, arith, subst, sym}
use Rattle.pdc_words.specs.CheckWord.{IsRemainder, check_after}
use Rattle.pdc_words.proofs.WordSteps.{step_at, narrow_state, front_then}
use Rattle.pdc_words.proofs.crc.after_wide_steps.Goals as goal

pub loop-at-preserved : goal.loop-at-preserved
loop-at-preserved c = (
  omega (arith, c.loop-at.invariant.0, c.loop-at-test.true),
  λ check h. subst (λ (w : ℕ). IsRemainder (bit_xor c.wide_moved_up.result w * 2 ^ 16) (fold check_after check (take (c.loop-at.at + 16) c.args.bytes.now))) (sym c.read_wide_step.ensures)
      (step_at 16 _ _ check _ c.args.bytes.now (λ i. omega (arith, c.type_inv.bytes i)) (omega (arith, c.loop-at.invariant.0, c.loop-at-test.true)) (c.loop-at.invariant.1 check h) c.wide_moved_up.ensures),
)

pub returns : goal.returns
returns c = record {
  step = λ check h. subst (λ (r : ℕ). IsRemainder (c.after_rest.result * 2 ^ 16) r) (front_then check c.loop-at.at c.args.bytes.now)
      (c.after_rest.ensures.step _ (narrow_state _ _ _ c.narrowed.ensures (c.loop-at.invariant.1 check h)));
}
