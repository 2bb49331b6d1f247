-- The remainder of a sum, without a division.
use Rattle.std.proofs.Common.{◌≡◌, ℕ, ◌+◌, ◌*◌, ◌/◌, ◌%◌, ◌<◌, ap, arith, sym, ◌∙◌}
use Rattle.std.proofs.Math.Nat.{div-add-mod, mod-eq_of_lt, mul-add-mod_self_left}

-- what is left of whole windows is the remainder
rest_is : (w q r i : ℕ) → w * q + r ≡ i → r < w → r ≡ i % w
rest_is w q r i e h = sym (mod-eq_of_lt h) ∙ sym (mul-add-mod_self_left w q r) ∙ ap (λ n. n % w) e

-- the remainder of what stands so much above, where it is in the same window
pub above : (w p n i a : ℕ) → n + a ≡ i → p ≡ n % w → p + a < w → p + a ≡ i % w
above w p n i a e k h = rest_is w (n / w) (p + a) i (omega (arith, div-add-mod n w)) h
