-- The check word is linear: what two of them differ in follows from what the bytes differ in alone. So the check word of a
-- frame follows from that of another that differs from it in its front.
use Rattle.std.specs.Prelude.{◌≡◌, ℕ, zero, suc, ◌+◌, ◌*◌, ◌^◌, ◌<◌, List, [], ◌∷◌, ◌++◌, length, fold, bit_xor}
use Rattle.std.specs.Int.{w16, to_be_bytes}
use Rattle.pdc_words.specs.Bytes.{AreBytes}
use Rattle.pdc_words.specs.CheckWord.{IsCongruent, IsRemainder, check_after, check_word_of, polynomial_of}

-- a check word, or a difference of two, moved past so many bytes that are 0
abbrev pub check_moved : ℕ → ℕ → ℕ
check_moved zero check = check
check_moved (suc count) check = check_moved count (check_after check 0)

-- the number that moves past so many bytes: its product with x^16 has the remainder of x^(8 * count)
abbrev pub IsPower : ℕ → ℕ → Type 0
IsPower count power = IsCongruent (power * 2 ^ 16) (2 ^ (8 * count))

-- what two lists of bytes differ in, byte by byte, as far as the shorter goes
abbrev pub xor_bytes : List ℕ → List ℕ → List ℕ
xor_bytes [] others = []
xor_bytes (byte ∷ bytes) [] = []
xor_bytes (byte ∷ bytes) (other ∷ others) = bit_xor byte other ∷ xor_bytes bytes others

-- what the check words differ in of frames whose fronts differ in these bytes, with one rest of so many bytes behind them
abbrev pub check_of_difference : List ℕ → ℕ → ℕ
check_of_difference differing count = check_moved count (fold check_after 0 differing)

pub record CheckWordsAreLinear : Type 0 where
  -- Of bytes of one length the check words differ in a remainder of what the bytes differ in,
  pub difference : (bytes other : List ℕ) → AreBytes bytes → AreBytes other → length bytes ≡ length other
      → IsRemainder (bit_xor (polynomial_of bytes) (polynomial_of other) * 2 ^ 16) (bit_xor (check_word_of bytes) (check_word_of other))
  -- and what differs in front is moved past the rest.
  pub front : (front other rest : List ℕ) → AreBytes front → AreBytes other → AreBytes rest
      → bit_xor (check_word_of (front ++ rest)) (check_word_of (other ++ rest)) ≡ check_moved (length rest) (bit_xor (check_word_of front) (check_word_of other))
  -- whatever the fronts are beside.
  pub fronts : (front other rest : List ℕ) → AreBytes front → AreBytes other → AreBytes rest → length front ≡ length other
      → bit_xor (check_word_of (front ++ rest)) (check_word_of (other ++ rest)) ≡ check_of_difference (xor_bytes front other) (length rest)
  -- A word that differs is moved past itself and the rest, whatever stands before it.
  pub word : (front rest : List ℕ) (a b : ℕ) → AreBytes front → AreBytes rest → a < 2 ^ 16 → b < 2 ^ 16
      → bit_xor (check_word_of (front ++ (to_be_bytes w16 a ++ rest))) (check_word_of (front ++ (to_be_bytes w16 b ++ rest))) ≡ check_moved (2 + length rest) (bit_xor a b)
  -- What is moved past bytes is the remainder of a product,
  pub moved : (count check : ℕ) → check < 2 ^ 16 → IsRemainder (check * 2 ^ (8 * count)) (check_moved count check)
  -- sums are moved term by term,
  pub sum : (count a b : ℕ) → a < 2 ^ 16 → b < 2 ^ 16 → check_moved count (bit_xor a b) ≡ bit_xor (check_moved count a) (check_moved count b)
  -- and one way behind another is one way.
  pub twice : (count more check : ℕ) → check_moved more (check_moved count check) ≡ check_moved (count + more) check
