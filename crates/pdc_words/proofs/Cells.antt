-- Bytes one by one, and the words that they make.
use Rattle.std.proofs.Common.{◌≡◌, inl, inr, ℕ, zero, suc, ◌+◌, ◌-◌, ◌*◌, ◌/◌, ◌%◌, ◌^◌, ◌<◌, ◌≤◌, List, [], ◌∷◌, ◌++◌, length, take, drop, get_or, refl, sym, ap, ap₂, ◌∙◌, arith, append_assoc, length-drop}
use Rattle.std.proofs.Math.Seq.{drop-cons, take-add, take-append_seam, drop-append_seam}
use Rattle.std.proofs.lemmas.List.{take_all, length-take, get_or-take, get_or_past, get_or-drop, get_or_append_left, get_or-append-add}
use Rattle.std.proofs.lemmas.Bool.{cases_lt}
use Rattle.std.specs.Int.{w16, w32, to_be_bytes}
use Rattle.pdc_words.specs.Bytes.{AreBytes, word_at, long_at}

-- n elements from this place on, one by one
abbrev pub cells_from : List ℕ → ℕ → ℕ → List ℕ
cells_from bytes i zero = []
cells_from bytes i (suc n) = get_or bytes i 0 ∷ cells_from bytes (suc i) n

pub drop-cells_from : (bytes : List ℕ) (i n : ℕ) → i + n ≤ length bytes → drop i bytes ≡ cells_from bytes i n ++ drop (i + n) bytes
drop-cells_from bytes i zero le = let e : i ≡ i + 0 = omega arith in ap (λ (k : ℕ). drop k bytes) e
drop-cells_from bytes i (suc n) le =
    let lt : i < length bytes = omega arith in
    let e : suc i + n ≡ i + suc n = omega arith in
    drop-cons bytes i 0 lt ∙ ap (λ (t : List ℕ). get_or bytes i 0 ∷ t) (drop-cells_from bytes (suc i) n (omega arith) ∙ ap (λ (k : ℕ). cells_from bytes (suc i) n ++ drop k bytes) e)

-- a word by its two cells
at_next : (bytes : List ℕ) (place : ℕ) → word_at bytes place ≡ 256 * get_or bytes place 0 + get_or bytes (suc place) 0
at_next bytes place =
    let next : place + 1 ≡ suc place = omega arith in
    ap (λ (k : ℕ). 256 * get_or bytes place 0 + get_or bytes k 0) next

-- a word and a long by their bytes
pub word_cells : (n a b : ℕ) → a < 256 → b < 256 → n ≡ 256 * a + b → to_be_bytes w16 n ≡ a ∷ b ∷ []
word_cells n a b a_fits b_fits e =
    let high : n / 256 % 256 ≡ a = omega arith in
    let low : n % 256 ≡ b = omega arith in
    rw (high, low) refl

pub long_cells : (n a b c d : ℕ) → a < 256 → b < 256 → c < 256 → d < 256 → n ≡ 65536 * (256 * a + b) + (256 * c + d) → to_be_bytes w32 n ≡ a ∷ b ∷ c ∷ d ∷ []
long_cells n a b c d a_fits b_fits c_fits d_fits e =
    let first : n / 16777216 % 256 ≡ a = omega arith in
    let second : n / 65536 % 256 ≡ b = omega arith in
    let third : n / 256 % 256 ≡ c = omega arith in
    let fourth : n % 256 ≡ d = omega arith in
    rw (first, second, third, fourth) refl

-- the bytes of a part are bytes
pub AreBytes-take : (n : ℕ) (bytes : List ℕ) → AreBytes bytes → AreBytes (take n bytes)
AreBytes-take n bytes h i =
    elim (cases_lt i n) [
      | inl lt ↦ rw (get_or-take n bytes i 0 lt) (h i)
      | inr le ↦ rw (get_or_past (take n bytes) i 0 (omega (arith, length-take n bytes))) (omega arith)
    ]

pub AreBytes-drop : (n : ℕ) (bytes : List ℕ) → AreBytes bytes → AreBytes (drop n bytes)
AreBytes-drop n bytes h i = rw get_or-drop (h (n + i))

pub AreBytes-cons : (x : ℕ) (xs : List ℕ) → x < 256 → AreBytes xs → AreBytes (x ∷ xs)
AreBytes-cons x xs lt h zero = lt
AreBytes-cons x xs lt h (suc i) = h i

AreBytes-nil : AreBytes []
AreBytes-nil i = omega arith

pub AreBytes-append : (xs ys : List ℕ) → AreBytes xs → AreBytes ys → AreBytes (xs ++ ys)
AreBytes-append [] ys h k = k
AreBytes-append (x ∷ xs) ys h k = AreBytes-cons x (xs ++ ys) (h 0) (AreBytes-append xs ys (λ i. h (suc i)) k)

-- the bytes of a word
two_bytes : (a b : ℕ) → a < 256 → b < 256 → AreBytes (a ∷ b ∷ [])
two_bytes a b ha hb = AreBytes-cons a (b ∷ []) ha (AreBytes-cons b [] hb AreBytes-nil)

pub word_bytes : (n : ℕ) → AreBytes (to_be_bytes w16 n)
word_bytes n = two_bytes (n / 256 % 256) (n % 256) (omega arith) (omega arith)

pub long_bytes : (n : ℕ) → AreBytes (to_be_bytes w32 n)
long_bytes n = AreBytes-append (n / 16777216 % 256 ∷ n / 65536 % 256 ∷ []) (n / 256 % 256 ∷ n % 256 ∷ []) (two_bytes (n / 16777216 % 256) (n / 65536 % 256) (omega arith) (omega arith)) (two_bytes (n / 256 % 256) (n % 256) (omega arith) (omega arith))

-- what was written is read, and what is read is written again
pub word_read : (n : ℕ) → n < 2 ^ 16 → word_at (to_be_bytes w16 n) 0 ≡ n
word_read n fits = omega arith

pub long_read : (n : ℕ) → n < 2 ^ 32 → long_at (to_be_bytes w32 n) 0 ≡ n
long_read n fits = omega arith

pub word_again : (bytes : List ℕ) (place : ℕ) → AreBytes bytes → place + 2 ≤ length bytes → to_be_bytes w16 (word_at bytes place) ≡ take 2 (drop place bytes)
word_again bytes place fits le =
    let cells : take 2 (drop place bytes) ≡ cells_from bytes place 2 = ap (take 2) (drop-cells_from bytes place 2 le) in
    word_cells (word_at bytes place) _ _ (fits place) (fits (suc place)) (at_next bytes place) ∙ sym cells

pub long_again : (bytes : List ℕ) (place : ℕ) → AreBytes bytes → place + 4 ≤ length bytes → to_be_bytes w32 (long_at bytes place) ≡ take 4 (drop place bytes)
long_again bytes place fits le =
    let cells : take 4 (drop place bytes) ≡ cells_from bytes place 4 = ap (take 4) (drop-cells_from bytes place 4 le) in
    let two : place + 2 ≡ suc (suc place) = omega arith in
    let low : word_at bytes (place + 2) ≡ 256 * get_or bytes (suc (suc place)) 0 + get_or bytes (suc (suc (suc place))) 0 = ap (word_at bytes) two ∙ at_next bytes (suc (suc place)) in
    long_cells (long_at bytes place) _ _ _ _ (fits place) (fits (suc place)) (fits (suc (suc place))) (fits (suc (suc (suc place)))) (ap₂ (λ (a b : ℕ). 65536 * a + b) (at_next bytes place) low) ∙ sym cells

-- a word in a front, and in what stands behind one
pub word_at-take : (n : ℕ) (bytes : List ℕ) (place : ℕ) → place + 2 ≤ n → word_at (take n bytes) place ≡ word_at bytes place
word_at-take n bytes place le =
    ap₂ (λ (a b : ℕ). 256 * a + b) (get_or-take n bytes place 0 (omega arith)) (get_or-take n bytes (place + 1) 0 (omega arith))

pub word_at-append : (front rest : List ℕ) (place : ℕ) → place + 2 ≤ length front → word_at (front ++ rest) place ≡ word_at front place
word_at-append front rest place le =
    ap₂ (λ (a b : ℕ). 256 * a + b) (get_or_append_left front rest 0 place (omega arith)) (get_or_append_left front rest 0 (place + 1) (omega arith))

pub word_at-behind : (front rest : List ℕ) (place : ℕ) → word_at (front ++ rest) (length front + place) ≡ word_at rest place
word_at-behind front rest place =
    let next : length front + place + 1 ≡ length front + (place + 1) = omega arith in
    ap₂ (λ (a b : ℕ). 256 * a + b) (get_or-append-add front rest place 0) (ap (λ (k : ℕ). get_or (front ++ rest) k 0) next ∙ get_or-append-add front rest (place + 1) 0)

pub word_at-drop : (n : ℕ) (bytes : List ℕ) (place : ℕ) → word_at (drop n bytes) place ≡ word_at bytes (n + place)
word_at-drop n bytes place =
    let next : n + (place + 1) ≡ n + place + 1 = omega arith in
    ap₂ (λ (a b : ℕ). 256 * a + b) (get_or-drop n bytes place 0) (get_or-drop n bytes (place + 1) 0 ∙ ap (λ (k : ℕ). get_or bytes k 0) next)

-- and a long, which is two words
two_words : (a b c d : ℕ) → a ≡ c → b ≡ d → 65536 * a + b ≡ 65536 * c + d
two_words a b c d high low = omega (arith, high, low)

pub long_at-take : (n : ℕ) (bytes : List ℕ) (place : ℕ) → place + 4 ≤ n → long_at (take n bytes) place ≡ long_at bytes place
long_at-take n bytes place le = two_words _ _ _ _ (word_at-take n bytes place (omega arith)) (word_at-take n bytes (place + 2) (omega arith))

pub long_at-append : (front rest : List ℕ) (place : ℕ) → place + 4 ≤ length front → long_at (front ++ rest) place ≡ long_at front place
long_at-append front rest place le = two_words _ _ _ _ (word_at-append front rest place (omega arith)) (word_at-append front rest (place + 2) (omega arith))

pub long_at-behind : (front rest : List ℕ) (place : ℕ) → long_at (front ++ rest) (length front + place) ≡ long_at rest place
long_at-behind front rest place =
    let next : length front + place + 2 ≡ length front + (place + 2) = omega arith in
    two_words _ _ _ _ (word_at-behind front rest place) (ap (word_at (front ++ rest)) next ∙ word_at-behind front rest (place + 2))

pub long_at-drop : (n : ℕ) (bytes : List ℕ) (place : ℕ) → long_at (drop n bytes) place ≡ long_at bytes (n + place)
long_at-drop n bytes place =
    let next : n + (place + 2) ≡ n + place + 2 = omega arith in
    two_words _ _ _ _ (word_at-drop n bytes place) (word_at-drop n bytes (place + 2) ∙ ap (word_at bytes) next)

-- a number by the bytes of its word
pub word_value : (n m : ℕ) → n < 2 ^ 16 → m < 2 ^ 16 → to_be_bytes w16 n ≡ to_be_bytes w16 m → n ≡ m
word_value n m n_fits m_fits e =
    let high : n / 256 % 256 ≡ m / 256 % 256 = cc in
    let low : n % 256 ≡ m % 256 = cc in
    omega (arith, high, low)

pub long_value : (n m : ℕ) → n < 2 ^ 32 → m < 2 ^ 32 → to_be_bytes w32 n ≡ to_be_bytes w32 m → n ≡ m
long_value n m n_fits m_fits e =
    let first : n / 16777216 % 256 ≡ m / 16777216 % 256 = cc in
    let second : n / 65536 % 256 ≡ m / 65536 % 256 = cc in
    let third : n / 256 % 256 ≡ m / 256 % 256 = cc in
    let fourth : n % 256 ≡ m % 256 = cc in
    omega (arith, first, second, third, fourth)

-- the first bytes of a piece, and then the first of its rest
pub two_takes : (old mid new piece : List ℕ) (a b : ℕ) → mid ≡ old ++ take a piece → new ≡ mid ++ take b (take (length piece - a) (drop a piece)) → new ≡ old ++ take (a + b) piece
two_takes old mid new piece a b mid-is new-is =
    let all : take (length piece - a) (drop a piece) ≡ drop a piece = take_all (length piece - a) (drop a piece) (omega (arith, length-drop a piece)) in
    new-is ∙ ap (λ (xs : List ℕ). mid ++ take b xs) all ∙ ap (λ (xs : List ℕ). xs ++ take b (drop a piece)) mid-is ∙ append_assoc old (take a piece) (take b (drop a piece))
    ∙ ap (λ (xs : List ℕ). old ++ xs) (sym (take-add a b piece))

-- two parts of one length, with what follows them
pub same_parts : (xs ys x y : List ℕ) → length xs ≡ length ys → xs ++ x ≡ ys ++ y → (xs ≡ ys) × (x ≡ y)
same_parts xs ys x y len e = (
  sym (take-append_seam xs x) ∙ ap (take (length xs)) e ∙ ap (λ (n : ℕ). take n (ys ++ y)) len ∙ take-append_seam ys y,
  sym (drop-append_seam xs x) ∙ ap (drop (length xs)) e ∙ ap (λ (n : ℕ). drop n (ys ++ y)) len ∙ drop-append_seam ys y,
)
