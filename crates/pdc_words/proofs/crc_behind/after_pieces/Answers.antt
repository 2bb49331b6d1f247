use Rattle.std.proofs.Common.{ℕ, ◌*◌, ◌^◌, List, arith, fold, subst}
use Rattle.std.proofs.lemmas.List.{take_all}
use Rattle.pdc_words.specs.CheckWord.{IsRemainder, check_after}
use Rattle.pdc_words.proofs.crc_behind.after_pieces.Goals as goal

pub returns : goal.returns
returns c = record {
  step = λ check h. subst (λ (xs : List ℕ). IsRemainder (c.after_part-state-3.result.0 * 2 ^ 16) (fold check_after check xs))
      (take_all c.after_part-state-3.result.1 c.args.bytes.now (omega (arith, c.after_part-state-3.ensures.left)))
      (c.after_part-state-3.ensures.step check (c.after_part-state-2.ensures.step check (c.after_part-state.ensures.step check h)));
}
