use Rattle.std.proofs.Common.{ℕ, ◌*◌, ◌^◌, arith, subst, sym}
use Rattle.pdc_words.specs.CheckWord.{IsRemainder}
use Rattle.pdc_words.proofs.WordSteps.{narrow_state}
use Rattle.pdc_words.proofs.lanes.after_blocks.Goals as goal

pub loop-at-init : goal.loop-at-init
loop-at-init c = (omega (arith, c.requires), λ check h. subst (λ (s : ℕ). IsRemainder (s * 2 ^ 16) check) (sym c.lanes_of-lanes.ensures) h)

pub loop-at-preserved : goal.loop-at-preserved
loop-at-preserved c = (omega (arith, c.loop-at.invariant.0, c.loop-at-test.true), λ check h. c.lanes_step-lanes.ensures check (c.loop-at.invariant.1 check h))

pub returns-clause-state : goal.returns-clause-state
returns-clause-state c = λ check h. narrow_state _ _ _ c.lanes_narrowed.ensures (c.lanes_left-left.ensures check (c.loop-at.invariant.1 check h))
