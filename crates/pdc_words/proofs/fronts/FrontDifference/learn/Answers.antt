use Rattle.std.proofs.Common.{◌≡◌, ◌∙◌, ap, ap₂, arith, fold, sym}
use Rattle.std.proofs.Math.Logic.{∥∥₁_elim}
use Rattle.std.proofs.Math.Nat.{ℕ_set}
use Rattle.std.specs.Int.Bits.{bit_xor}
use Rattle.pdc_words.specs.CheckWord.{check_after}
use Rattle.pdc_words.specs.Linear.{IsPower, check_moved, xor_bytes}
use Rattle.pdc_words.proofs.FrontLemmas.{fronts_check}
use Rattle.pdc_words.proofs.fronts.FrontDifference.learn.Goals as goal

pub invariant_of-self : goal.invariant_of-self
invariant_of-self c =
    let known : _ = c.args.known.now in
    let front : _ = c.args.front.now in
    let checks_are : bit_xor c.check_word.result c.check_word-2.result ≡ fold check_after 0 (xor_bytes known front) =
    ap₂ bit_xor c.check_word.ensures.value c.check_word-2.ensures.value
    ∙ fronts_check known front (λ i. omega (arith, c.fits-known i)) (λ i. omega (arith, c.fits-front i)) (c.told-known ∙ sym c.told-front) in
    let both : fold check_after 0 (xor_bytes known front) ≡ fold check_after 0 c.difference.result = ap (fold check_after 0) (sym c.difference.ensures) in
    record {
      moves = c.power_for-power.ensures;
      told = ∥∥₁_elim c.power_for-power.ensures (ℕ_set _ _) (λ (is : IsPower c.args.rest c.power_for-power.result). c.moved_past-checks.ensures c.args.rest is ∙ ap (check_moved c.args.rest) (checks_are ∙ both));
    }
