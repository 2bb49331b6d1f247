use Rattle.std.proofs.Common.{◌≡◌, ℕ, ◌*◌, ◌^◌, arith, subst}
use Rattle.pdc_words.specs.CheckWord.{IsRemainder}
use Rattle.pdc_words.proofs.LongSteps.{whole, long_narrowed, long_step}
use Rattle.pdc_words.proofs.crc.after_long_steps.Goals as goal

pub loop-at-init : goal.loop-at-init
loop-at-init c = (
  c.requires,
  λ check h.
      let alone : c.args.state ≡ whole 0 c.args.state = omega arith in
      let now : IsRemainder (whole 0 c.args.state * 2 ^ 16) check = subst (λ (s : ℕ). IsRemainder (s * 2 ^ 16) check) alone h in
      long_step 0 c.args.state _ _ _ _ check 0 c.args.bytes.now (λ i. omega (arith, c.type_inv.bytes i)) (omega (arith, c.requires)) c.long_moved_up-up.ensures.low
      c.read_wide_step.ensures c.read_wide_step-2.ensures now c.long_moved_up-up.ensures.congruent,
)

pub loop-at-preserved : goal.loop-at-preserved
loop-at-preserved c = (
  omega (arith, c.loop-at.invariant.0, c.loop-at-test.true),
  λ check h. long_step c.loop-at.high c.loop-at.low _ _ _ _ check c.loop-at.at c.args.bytes.now (λ i. omega (arith, c.type_inv.bytes i)) (omega (arith, c.loop-at.invariant.0, c.loop-at-test.true))
      c.long_moved_up-up-in-loop-at.ensures.low c.read_wide_step-in-loop-at.ensures c.read_wide_step-in-loop-at-2.ensures (c.loop-at.invariant.1 check h) c.long_moved_up-up-in-loop-at.ensures.congruent,
)

pub returns-clause-state : goal.returns-clause-state
returns-clause-state c = λ check h. long_narrowed c.loop-at.high c.loop-at.low _ _ c.loop-at.auto.low-fits.fits c.wide_moved_up.ensures (c.loop-at.invariant.1 check h)
