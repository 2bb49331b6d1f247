-- Counts: the order in which they stand, and what is read of their bytes.
use Rattle.std.proofs.Common.{◌≡◌, ℕ, zero, suc, ◌+◌, ◌*◌, ◌^◌, ◌<◌, ◌≤◌, inl, inr, true, false, List, [], ◌∷◌, length, slice_index, drop, refl, ap, ◌∙◌, arith}
use Rattle.std.proofs.lemmas.Bool.Decides.{nat_tests}
use Rattle.std.proofs.lemmas.Bool.{cases_lt}
use Rattle.std.proofs.lemmas.Cmp.{nat_list_cmp_total}
use Rattle.std.proofs.lemmas.Nat.{from_be_bytes-to_be_bytes_2}
use Rattle.std.specs.Ordering.{is_lt, nat_cmp, ordering_reverse, ordering_then}
use Rattle.std.specs.declared.cmp.Ordering.{Ordering}
use Rattle.std.specs.declared.cmp.Ordering.TheVariants.{Less, Equal, Greater}
use Rattle.std.specs.Cmp.Lexicographic.{slice_cmp}
use Rattle.std.specs.Int.{w16, from_be_bytes, to_be_bytes}
use Rattle.byteorder.specs.Endian.{big_number, IsRead}
use Rattle.pdc_mark.specs.Counts.{are_below, count_bytes, counts_of, IsRaise}

reversed : (a b : Ordering) → a ≡ ordering_reverse b → is_lt a ≡ true → is_lt b ≡ false
reversed a Less same below = cc
reversed a Equal same below = refl
reversed a Greater same below = refl

pub are_below_asym : (a b : List ℕ) → are_below a b ≡ true → are_below b a ≡ false
unfolding are_below
are_below_asym a b below = reversed (slice_cmp nat_cmp a b) (slice_cmp nat_cmp b a) (nat_list_cmp_total.antisymm a b) below

less_first : (x y : ℕ) (rest : Ordering) → x < y → is_lt (ordering_then (nat_cmp x y) rest) ≡ true
less_first x y rest below = grind (arith, nat_tests)

same_first : (x y : ℕ) (rest : Ordering) → x ≡ y → ordering_then (nat_cmp x y) rest ≡ rest
same_first x y rest same = grind (arith, nat_tests)

-- counts that were raised are above
raise_below : (old new : List ℕ) → length old ≡ length new → ((i : ℕ) → slice_index old i ≤ slice_index new i) → (i : ℕ) → slice_index old i < slice_index new i → is_lt (slice_cmp nat_cmp old new) ≡ true
raise_below [] [] long lower i higher = absurd (omega (arith, higher))
raise_below [] (y ∷ ys) long lower i higher = refl
raise_below (x ∷ xs) [] long lower i higher = absurd (omega (arith, long))
raise_below (x ∷ xs) (y ∷ ys) long lower zero higher = less_first x y (slice_cmp nat_cmp xs ys) higher
raise_below (x ∷ xs) (y ∷ ys) long lower (suc i) higher =
    elim (cases_lt x y) [
      | inl below ↦ less_first x y (slice_cmp nat_cmp xs ys) below
      | inr above ↦ ap is_lt (same_first x y (slice_cmp nat_cmp xs ys) (omega (arith, above, lower 0))) ∙ raise_below xs ys (omega (arith, long)) (λ k. lower (suc k)) i higher
    ]

pub are_below-raise : (old new : List ℕ) → length old ≡ length new → IsRaise old new → are_below old new ≡ true
unfolding are_below
are_below-raise old new long raise = raise_below old new long raise.none_lower raise.one_greater.0 raise.one_greater.1

-- what is written is read
pub counts_of-count_bytes : (counts : List ℕ) → ((i : ℕ) → slice_index counts i < 2 ^ 16) → counts_of (count_bytes counts) ≡ counts
unfolding count_bytes
counts_of-count_bytes [] fits = refl
counts_of-count_bytes (count ∷ counts) fits =
    let first : from_be_bytes w16 (to_be_bytes w16 count) ≡ count = from_be_bytes-to_be_bytes_2 count (fits 0) in
    ap (λ n. n ∷ counts_of (count_bytes counts)) first ∙ ap (λ (rest : List ℕ). count ∷ rest) (counts_of-count_bytes counts (λ i. fits (suc i)))

pub length-count_bytes : (counts : List ℕ) → length (count_bytes counts) ≡ 2 * length counts
unfolding count_bytes
length-count_bytes [] = refl
length-count_bytes (count ∷ counts) = let rest = length-count_bytes counts in omega (arith, rest)

-- what byteorder's reader of numbers gives
pub counts_read : (bytes counts : List ℕ) → length bytes ≡ 2 * length counts → IsRead big_number 2 bytes counts → counts ≡ counts_of bytes
counts_read [] [] long read = refl
counts_read (high ∷ rest) [] long read = absurd (omega (arith, long))
counts_read [] (count ∷ counts) long read = absurd (omega (arith, long))
counts_read (high ∷ []) (count ∷ counts) long read = absurd (omega (arith, long))
counts_read (high ∷ low ∷ rest) (count ∷ counts) long read =
    let first : count ≡ high * 256 + low = omega (arith, read 0 (omega arith)) in
    let more : IsRead big_number 2 rest counts = λ k within.
    let later : slice_index counts k ≡ big_number 2 (drop (2 * suc k) (high ∷ low ∷ rest)) = read (suc k) (omega (arith, within)) in
    let twice : 2 * suc k ≡ suc (suc (2 * k)) = omega arith in
    later ∙ ap (λ n. big_number 2 (drop n (high ∷ low ∷ rest))) twice in
    ap (λ n. n ∷ counts) first ∙ ap (λ (tail : List ℕ). (high * 256 + low) ∷ tail) (counts_read rest counts (omega (arith, long)) more)
