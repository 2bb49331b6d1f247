-- Words that are written one by one over others, from the first on.
use Rattle.std.proofs.Common.{◌≡◌, ℕ, zero, suc, ◌+◌, ◌≤◌, List, get_or, set, take, ◌++◌, [], ◌∷◌, length, refl, sym, ap, ◌∙◌, arith}
use Rattle.std.proofs.lemmas.List.{length-set, take_all, take_more}
use Rattle.std.proofs.lemmas.Grind.{take-set_at}

-- the first so many are written
abbrev pub written : ℕ → (kept words : List ℕ) → List ℕ
written zero kept words = kept
written (suc n) kept words = set (written n kept words) n (get_or words n 0)

length-written : (n : ℕ) (kept words : List ℕ) → length (written n kept words) ≡ length kept
length-written zero kept words = refl
length-written (suc n) kept words = length-set (written n kept words) n (get_or words n 0) ∙ length-written n kept words

front : (n : ℕ) (kept words : List ℕ) → n ≤ length words → length kept ≡ length words → take n (written n kept words) ≡ take n words
front zero kept words h e = refl
front (suc n) kept words h e =
    let before : take n (written n kept words) ≡ take n words = front n kept words (omega (arith, h)) e in
    let next : suc n ≡ n + 1 = omega arith in
    let size : length (written n kept words) ≡ length kept = length-written n kept words in
    take-set_at (written n kept words) n (suc n) (get_or words n 0) (omega arith) (omega (arith, size, e, h))
    ∙ ap (λ (t : List ℕ). t ++ get_or words n 0 ∷ []) before
    ∙ sym (ap (λ k. take k words) next ∙ take_more words n 0 (omega (arith, h)))

-- then all are
pub all_written : (n : ℕ) (kept words : List ℕ) → length kept ≡ n → length words ≡ n → written n kept words ≡ words
all_written n kept words h k =
    sym (take_all n (written n kept words) (omega (arith, length-written n kept words, h)))
    ∙ front n kept words (omega (arith, k)) (h ∙ sym k)
    ∙ take_all n words (omega (arith, k))
