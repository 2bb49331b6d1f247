-- What the check words of two frames differ in follows from what their fronts differ in, byte by byte.
use Rattle.std.proofs.Common.{◌≡◌, ℕ, zero, suc, ◌*◌, ◌^◌, ◌<◌, List, [], ◌∷◌, ◌++◌, length, fold, get_or, refl, sym, ap, ap₂, ◌∙◌, arith}
use Rattle.std.specs.Int.Bits.{bit_xor, xor_lt}
use Rattle.pdc_words.specs.Bytes.{AreBytes}
use Rattle.pdc_words.specs.CheckWord.{IsRemainder, check_after, check_word_of}
use Rattle.pdc_words.specs.Linear.{check_moved, check_of_difference, xor_bytes}
use Rattle.pdc_words.proofs.LinearLemmas.{front_differs, other_check, remainder_from, remainder_xor}
use Rattle.pdc_words.proofs.Polynomials.{byte_division, one_remainder, swap_middle, xor-shl}

-- one more byte of each
check_xor : (s t a b : ℕ) → s < 2 ^ 16 → t < 2 ^ 16 → a < 2 ^ 8 → b < 2 ^ 8 → bit_xor (check_after s a) (check_after t b) ≡ check_after (bit_xor s t) (bit_xor a b)
check_xor s t a b s_fits t_fits a_fits b_fits =
    one_remainder _ _ _
    (remainder_from (sym (swap_middle (s * 2 ^ 8) (a * 2 ^ 16) (t * 2 ^ 8) (b * 2 ^ 16) ∙ ap₂ bit_xor (xor-shl s t 8) (xor-shl a b 16)))
    (remainder_xor (byte_division s a s_fits a_fits) (byte_division t b t_fits b_fits)))
    (byte_division (bit_xor s t) (bit_xor a b) (xor_lt 16 s t s_fits t_fits) (xor_lt 8 a b a_fits b_fits))

fold_xor : (front other : List ℕ) (s t : ℕ) → AreBytes front → AreBytes other → length front ≡ length other → s < 2 ^ 16 → t < 2 ^ 16
    → bit_xor (fold check_after s front) (fold check_after t other) ≡ fold check_after (bit_xor s t) (xor_bytes front other)
fold_xor [] [] s t fits other_fits len s_fits t_fits = refl
fold_xor [] (b ∷ other) s t fits other_fits len s_fits t_fits = absurd (omega (arith, len))
fold_xor (a ∷ front) [] s t fits other_fits len s_fits t_fits = absurd (omega (arith, len))
fold_xor (a ∷ front) (b ∷ other) s t fits other_fits len s_fits t_fits =
    let a_fits : a < 2 ^ 8 = omega (arith, fits 0) in
    let b_fits : b < 2 ^ 8 = omega (arith, other_fits 0) in
    let one : IsRemainder (bit_xor (s * 2 ^ 8) (a * 2 ^ 16)) (check_after s a) = byte_division s a s_fits a_fits in
    let two : IsRemainder (bit_xor (t * 2 ^ 8) (b * 2 ^ 16)) (check_after t b) = byte_division t b t_fits b_fits in
    fold_xor front other (check_after s a) (check_after t b) (λ i. fits (suc i)) (λ i. other_fits (suc i)) (omega (arith, len)) one.small two.small
    ∙ ap (λ (check : ℕ). fold check_after check (xor_bytes front other)) (check_xor s t a b s_fits t_fits a_fits b_fits)

pub fronts_check : (front other : List ℕ) → AreBytes front → AreBytes other → length front ≡ length other
    → bit_xor (check_word_of front) (check_word_of other) ≡ fold check_after 0 (xor_bytes front other)
unfolding check_word_of
fronts_check front other fits other_fits len = fold_xor front other 65535 65535 fits other_fits len (omega arith) (omega arith)

pub fronts_differ : (front other rest : List ℕ) → AreBytes front → AreBytes other → AreBytes rest → length front ≡ length other
    → bit_xor (check_word_of (front ++ rest)) (check_word_of (other ++ rest)) ≡ check_of_difference (xor_bytes front other) (length rest)
fronts_differ front other rest fits other_fits rest_fits len =
    front_differs front other rest fits other_fits rest_fits ∙ ap (check_moved (length rest)) (fronts_check front other fits other_fits len)

-- the check word behind the other front
pub check_behind_other : (front other rest : List ℕ) (check moved : ℕ) → AreBytes front → AreBytes other → AreBytes rest → length front ≡ length other → check ≡ check_word_of (front ++ rest)
    → moved ≡ check_of_difference (xor_bytes front other) (length rest) → bit_xor check moved ≡ check_word_of (other ++ rest)
check_behind_other front other rest check moved fits other_fits rest_fits len check-is moved-is =
    other_check front other rest check moved fits other_fits rest_fits check-is (moved-is ∙ ap (check_moved (length rest)) (sym (fronts_check front other fits other_fits len)))

pub xor_bytes-length : (front other : List ℕ) → length front ≡ length other → length (xor_bytes front other) ≡ length front
xor_bytes-length [] other len = refl
xor_bytes-length (a ∷ front) [] len = absurd (omega (arith, len))
xor_bytes-length (a ∷ front) (b ∷ other) len = ap suc (xor_bytes-length front other (omega (arith, len)))

pub xor_bytes-at : (front other : List ℕ) (i d : ℕ) → i < length front → i < length other → get_or (xor_bytes front other) i d ≡ bit_xor (get_or front i d) (get_or other i d)
xor_bytes-at [] other i d inside other_inside = absurd (omega (arith, inside))
xor_bytes-at (a ∷ front) [] i d inside other_inside = absurd (omega (arith, other_inside))
xor_bytes-at (a ∷ front) (b ∷ other) zero d inside other_inside = refl
xor_bytes-at (a ∷ front) (b ∷ other) (suc i) d inside other_inside = xor_bytes-at front other i d (omega (arith, inside)) (omega (arith, other_inside))

-- parts that stand one behind the other differ part by part
pub xor_bytes-append : (a b c d : List ℕ) → length a ≡ length c → xor_bytes (a ++ b) (c ++ d) ≡ xor_bytes a c ++ xor_bytes b d
xor_bytes-append [] b [] d len = refl
xor_bytes-append [] b (y ∷ c) d len = absurd (omega (arith, len))
xor_bytes-append (x ∷ a) b [] d len = absurd (omega (arith, len))
xor_bytes-append (x ∷ a) b (y ∷ c) d len = ap (λ (xs : List ℕ). bit_xor x y ∷ xs) (xor_bytes-append a b c d (omega (arith, len)))
