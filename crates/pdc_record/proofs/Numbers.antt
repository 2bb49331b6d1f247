-- Numbers at the front of bytes are told by their bytes.
use Rattle.std.proofs.Common.{◌≡◌, inl, inr, ℕ, zero, suc, ◌*◌, ◌^◌, ◌<◌, ◌≤◌, List, [], ◌∷◌, ◌++◌, length, slice_index, take, drop, refl, sym, ap, ◌∙◌, append_assoc, arith}
use Rattle.std.proofs.lemmas.Bool.{cases_lt}
use Rattle.std.proofs.lemmas.List.{get_or-take, get_or_past, length-take, take-append-drop}
use Rattle.std.proofs.lemmas.Nat.{be_bytes_2, be_bytes_4, be_bytes_8, from_be_bytes-to_be_bytes_2, from_be_bytes-to_be_bytes_4, from_be_bytes-to_be_bytes_8}
use Rattle.std.specs.Int.{w16, w32, w64, from_be_bytes, to_be_bytes}
use Rattle.byteorder.specs.Endian.{big_number, IsRead}
use Rattle.pdc_record.specs.Bodies.{AreWords, words_of}

-- numbers at the front of the same bytes are the same, and so are the bytes behind them
pub same_word : (a b : ℕ) (r s : List ℕ) → a < 2 ^ 16 → b < 2 ^ 16 → to_be_bytes w16 a ++ r ≡ to_be_bytes w16 b ++ s → (a ≡ b) × (r ≡ s)
same_word a b r s a_fits b_fits e =
    let cells : to_be_bytes w16 a ≡ to_be_bytes w16 b = ap (take 2) e in
    (sym (from_be_bytes-to_be_bytes_2 a a_fits) ∙ ap (from_be_bytes w16) cells ∙ from_be_bytes-to_be_bytes_2 b b_fits, ap (drop 2) e)

pub same_long : (a b : ℕ) (r s : List ℕ) → a < 2 ^ 32 → b < 2 ^ 32 → to_be_bytes w32 a ++ r ≡ to_be_bytes w32 b ++ s → (a ≡ b) × (r ≡ s)
same_long a b r s a_fits b_fits e =
    let cells : to_be_bytes w32 a ≡ to_be_bytes w32 b = ap (take 4) e in
    (sym (from_be_bytes-to_be_bytes_4 a a_fits) ∙ ap (from_be_bytes w32) cells ∙ from_be_bytes-to_be_bytes_4 b b_fits, ap (drop 4) e)

pub same_wide : (a b : ℕ) (r s : List ℕ) → a < 2 ^ 64 → b < 2 ^ 64 → to_be_bytes w64 a ++ r ≡ to_be_bytes w64 b ++ s → (a ≡ b) × (r ≡ s)
same_wide a b r s a_fits b_fits e =
    let cells : to_be_bytes w64 a ≡ to_be_bytes w64 b = ap (take 8) e in
    (sym (from_be_bytes-to_be_bytes_8 a a_fits) ∙ ap (from_be_bytes w64) cells ∙ from_be_bytes-to_be_bytes_8 b b_fits, ap (drop 8) e)

pub same_byte : (a b : ℕ) (r s : List ℕ) → a ∷ r ≡ b ∷ s → (a ≡ b) × (r ≡ s)
same_byte a b r s e = (ap (λ (xs : List ℕ). slice_index xs 0) e, ap (drop 1) e)

same_numbers : (xs ys r s : List ℕ) → length xs ≡ length ys → ((i : ℕ) → slice_index xs i < 2 ^ 16) → ((i : ℕ) → slice_index ys i < 2 ^ 16) → words_of xs ++ r ≡ words_of ys ++ s → (xs ≡ ys) × (r ≡ s)
same_numbers [] [] r s len h k e = (refl, e)
same_numbers [] (y ∷ ys) r s len h k e = absurd (omega (arith, len))
same_numbers (x ∷ xs) [] r s len h k e = absurd (omega (arith, len))
same_numbers (x ∷ xs) (y ∷ ys) r s len h k e =
    let first : (x ≡ y) × (words_of xs ++ r ≡ words_of ys ++ s) = same_word x y (words_of xs ++ r) (words_of ys ++ s) (h 0) (k 0) e in
    let more : (xs ≡ ys) × (r ≡ s) = same_numbers xs ys r s (omega (arith, len)) (λ i. h (suc i)) (λ i. k (suc i)) first.1 in
    (ap (λ (n : ℕ). n ∷ xs) first.0 ∙ ap (λ (ns : List ℕ). y ∷ ns) more.0, more.1)

pub same_words : (many : ℕ) (xs ys r s : List ℕ) → AreWords many xs → AreWords many ys → words_of xs ++ r ≡ words_of ys ++ s → (xs ≡ ys) × (r ≡ s)
same_words many xs ys r s h k e = same_numbers xs ys r s (h.size ∙ sym k.size) h.each k.each e

pub length-words_of : (xs : List ℕ) → length (words_of xs) ≡ 2 * length xs
length-words_of [] = refl
length-words_of (x ∷ xs) = let rest = length-words_of xs in omega (arith, rest)

two_bytes : (high low : ℕ) → high < 256 → low < 256 → (i : ℕ) → slice_index (high ∷ low ∷ []) i < 256
two_bytes high low h l zero = h
two_bytes high low h l (suc zero) = l
two_bytes high low h l (suc (suc i)) = omega arith

-- what byteorder's reader of numbers gives has these bytes
pub words_read : (bytes counts : List ℕ) → length bytes ≡ 2 * length counts → ((i : ℕ) → slice_index bytes i < 256) → IsRead big_number 2 bytes counts → words_of counts ≡ bytes
words_read [] [] long fits read = refl
words_read (high ∷ rest) [] long fits read = absurd (omega (arith, long))
words_read [] (count ∷ counts) long fits read = absurd (omega (arith, long))
words_read (high ∷ []) (count ∷ counts) long fits read = absurd (omega (arith, long))
words_read (high ∷ low ∷ rest) (count ∷ counts) long fits read =
    let first : count ≡ from_be_bytes w16 (high ∷ low ∷ []) = omega (arith, read 0 (omega arith)) in
    let cells : to_be_bytes w16 count ≡ high ∷ low ∷ [] = be_bytes_2 (high ∷ low ∷ []) count refl (two_bytes high low (fits 0) (fits 1)) first in
    let more : IsRead big_number 2 rest counts = λ k within.
    let later : slice_index counts k ≡ big_number 2 (drop (2 * suc k) (high ∷ low ∷ rest)) = read (suc k) (omega (arith, within)) in
    let twice : 2 * suc k ≡ suc (suc (2 * k)) = omega arith in
    later ∙ ap (λ n. big_number 2 (drop n (high ∷ low ∷ rest))) twice in
    ap (λ (xs : List ℕ). xs ++ words_of counts) cells ∙ ap (λ (tail : List ℕ). high ∷ low ∷ tail) (words_read rest counts (omega (arith, long)) (λ i. fits (suc (suc i))) more)

pub nothing : (xs : List ℕ) → length xs ≡ 0 → xs ≡ []
nothing [] e = refl
nothing (x ∷ xs) e = absurd (omega (arith, e))

pub three_words : (a b c : ℕ) → a < 2 ^ 16 → b < 2 ^ 16 → c < 2 ^ 16 → AreWords 3 (a ∷ b ∷ c ∷ [])
three_words a b c a_fits b_fits c_fits = record { size = refl; each = each }
  where
    each : (i : ℕ) → slice_index (a ∷ b ∷ c ∷ []) i < 2 ^ 16
    each zero = a_fits
    each (suc zero) = b_fits
    each (suc (suc zero)) = c_fits
    each (suc (suc (suc i))) = omega arith

fits_take : (n : ℕ) (bytes : List ℕ) → ((i : ℕ) → slice_index bytes i < 256) → (i : ℕ) → slice_index (take n bytes) i < 256
fits_take n bytes h i =
    elim (cases_lt i n) [
      | inl lt ↦ rw (get_or-take n bytes i 0 lt) (h i)
      | inr le ↦ rw (get_or_past (take n bytes) i 0 (omega (arith, length-take n bytes))) (omega arith)
    ]

split : (n : ℕ) (bytes cells chunk rest : List ℕ) → cells ≡ take n bytes → chunk ≡ take n bytes → rest ≡ drop n bytes → bytes ≡ cells ++ rest
split n bytes cells chunk rest cells-are chunk-is rest-is = sym (take-append-drop n bytes) ∙ ap (λ (xs : List ℕ). xs ++ drop n bytes) (sym cells-are) ∙ ap (λ (xs : List ℕ). cells ++ xs) (sym rest-is)

-- a number is split off the front
pub split_2 : (bytes chunk rest : List ℕ) (n : ℕ) → ((i : ℕ) → slice_index bytes i < 256) → 2 ≤ length bytes → chunk ≡ take 2 bytes → rest ≡ drop 2 bytes → n ≡ from_be_bytes w16 chunk → bytes ≡ to_be_bytes w16 n ++ rest
split_2 bytes chunk rest n h len chunk-is rest-is is =
    split 2 bytes (to_be_bytes w16 n) chunk rest (be_bytes_2 (take 2 bytes) n (omega (arith, length-take 2 bytes)) (fits_take 2 bytes h) (is ∙ ap (from_be_bytes w16) chunk-is)) chunk-is rest-is

pub split_4 : (bytes chunk rest : List ℕ) (n : ℕ) → ((i : ℕ) → slice_index bytes i < 256) → 4 ≤ length bytes → chunk ≡ take 4 bytes → rest ≡ drop 4 bytes → n ≡ from_be_bytes w32 chunk → bytes ≡ to_be_bytes w32 n ++ rest
split_4 bytes chunk rest n h len chunk-is rest-is is =
    split 4 bytes (to_be_bytes w32 n) chunk rest (be_bytes_4 (take 4 bytes) n (omega (arith, length-take 4 bytes)) (fits_take 4 bytes h) (is ∙ ap (from_be_bytes w32) chunk-is)) chunk-is rest-is

pub split_8 : (bytes chunk rest : List ℕ) (n : ℕ) → ((i : ℕ) → slice_index bytes i < 256) → 8 ≤ length bytes → chunk ≡ take 8 bytes → rest ≡ drop 8 bytes → n ≡ from_be_bytes w64 chunk → bytes ≡ to_be_bytes w64 n ++ rest
split_8 bytes chunk rest n h len chunk-is rest-is is =
    split 8 bytes (to_be_bytes w64 n) chunk rest (be_bytes_8 (take 8 bytes) n (omega (arith, length-take 8 bytes)) (fits_take 8 bytes h) (is ∙ ap (from_be_bytes w64) chunk-is)) chunk-is rest-is

-- three parts appended
pub three_parts : (old a b d first second third front middle back : List ℕ) → first ≡ old ++ a → second ≡ first ++ b → third ≡ second ++ d → a ≡ front → b ≡ middle → d ≡ back → third ≡ old ++ (front ++ (middle ++ back))
three_parts old a b d first second third front middle back e1 e2 e3 a-is b-is d-is =
    e3 ∙ ap (λ (xs : List ℕ). xs ++ d) (e2 ∙ ap (λ (xs : List ℕ). xs ++ b) e1) ∙ append_assoc (old ++ a) b d ∙ append_assoc old a (b ++ d)
    ∙ ap (λ (xs : List ℕ). old ++ (xs ++ (b ++ d))) a-is ∙ ap (λ (xs : List ℕ). old ++ (front ++ (xs ++ d))) b-is ∙ ap (λ (xs : List ℕ). old ++ (front ++ (middle ++ xs))) d-is
