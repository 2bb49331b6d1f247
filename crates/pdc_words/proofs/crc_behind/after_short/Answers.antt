use Rattle.std.proofs.Common.{ℕ, ◌*◌, ◌^◌, arith, bit_xor, fold, subst, sym, take}
use Rattle.pdc_words.specs.CheckWord.{IsRemainder, check_after}
use Rattle.pdc_words.proofs.WordSteps.{narrow_state, step_at}
use Rattle.pdc_words.proofs.crc_behind.after_short.Goals as goal

pub returns : goal.returns
returns c = record {
  step = λ check h. c.after_pieces.ensures.step check
      (subst (λ (w : ℕ). IsRemainder (bit_xor c.moved_up.result w * 2 ^ 16) (fold check_after check (take 8 c.args.payload.now))) (sym c.read_step.ensures)
      (step_at 8 c.narrowed.result c.moved_up.result check 0 c.args.payload.now (λ i. omega (arith, c.type_inv.payload i)) (omega (arith, c.requires.long)) (narrow_state _ _ check c.narrowed.ensures h) c.moved_up.ensures));
}
