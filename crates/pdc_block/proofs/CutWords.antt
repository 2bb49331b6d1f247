-- The words of a front of some bytes, and those behind it.
use Rattle.std.proofs.Common.{◌≡◌, ℕ, zero, suc, ◌*◌, ◌+◌, List, [], ◌∷◌, ap, arith, drop, refl, take, ◌∙◌}
use Rattle.pdc_block.specs.Block.{words_in}

take_none : (bytes : List ℕ) → take 0 bytes ≡ []
take_none bytes = refl

pub words_before : (n : ℕ) (bytes : List ℕ) → words_in (take (2 * n) bytes) ≡ take n (words_in bytes)
words_before zero bytes = refl
words_before (suc n) [] = let e : 2 * suc n ≡ suc (suc (2 * n)) = omega arith in ap (λ (k : ℕ). words_in (take k [])) e
words_before (suc n) (high ∷ []) = let e : 2 * suc n ≡ suc (suc (2 * n)) = omega arith in ap (λ (k : ℕ). words_in (take k (high ∷ []))) e
words_before (suc n) (high ∷ low ∷ bytes) =
    let e : 2 * suc n ≡ suc (suc (2 * n)) = omega arith in
    ap (λ (k : ℕ). words_in (take k (high ∷ low ∷ bytes))) e ∙ ap (λ (ws : List ℕ). (256 * high + low) ∷ ws) (words_before n bytes)

pub words_behind : (n : ℕ) (bytes : List ℕ) → words_in (drop (2 * n) bytes) ≡ drop n (words_in bytes)
words_behind zero bytes = refl
words_behind (suc n) [] = let e : 2 * suc n ≡ suc (suc (2 * n)) = omega arith in ap (λ (k : ℕ). words_in (drop k [])) e
words_behind (suc n) (high ∷ []) = let e : 2 * suc n ≡ suc (suc (2 * n)) = omega arith in ap (λ (k : ℕ). words_in (drop k (high ∷ []))) e
words_behind (suc n) (high ∷ low ∷ bytes) =
    let e : 2 * suc n ≡ suc (suc (2 * n)) = omega arith in
    ap (λ (k : ℕ). words_in (drop k (high ∷ low ∷ bytes))) e ∙ words_behind n bytes
