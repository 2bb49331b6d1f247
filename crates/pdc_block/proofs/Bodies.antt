-- The words that bytes write.
use Rattle.std.proofs.Common.{◌≡◌, ℕ, ◌+◌, ◌*◌, List, [], ◌∷◌, ◌++◌, drop, get_or, length, ◌<◌, ◌≤◌, refl, sym, ap, take, ◌∙◌, arith, zero, suc}
use Rattle.std.proofs.lemmas.List.{length-take-le, take-append-drop}
use Rattle.pdc_cfg.specs.pdc_frame.Bytes.{AreBytes, word_at}
use Rattle.pdc_cfg.specs.pdc_frame.Parts.{WordsAreTheirBytes}
use Rattle.pdc_block.proofs.Words.{length-bytes_of_words, same_words}
use Rattle.pdc_cfg.specs.Shape.{word_count_of}
use Rattle.pdc_cfg.specs.declared.shape.Shape.{Shape}
use Rattle.pdc_block.specs.Block.{AreWords, IsBody, bytes_of_words, words_in}

-- the bytes of a list without its first two
tail_bytes : (high low : ℕ) (bytes : List ℕ) → AreBytes (high ∷ low ∷ bytes) → AreBytes bytes
tail_bytes high low bytes fits i = fits (suc (suc i))

pub words_count : (bytes : List ℕ) (n : ℕ) → length bytes ≡ 2 * n → length (words_in bytes) ≡ n
words_count [] n e = omega (arith, e)
words_count (byte ∷ []) n e = absurd (omega (arith, e))
words_count (high ∷ low ∷ bytes) zero e = absurd (omega (arith, e))
words_count (high ∷ low ∷ bytes) (suc n) e = let h : length (words_in bytes) ≡ n = words_count bytes n (omega (arith, e)) in omega (arith, h)

pub words_fit : (bytes : List ℕ) → AreBytes bytes → AreWords (words_in bytes)
words_fit [] fits i = omega arith
words_fit (byte ∷ []) fits i = omega arith
words_fit (high ∷ low ∷ bytes) fits zero = omega (arith, fits 0, fits 1)
words_fit (high ∷ low ∷ bytes) fits (suc i) = words_fit bytes (tail_bytes high low bytes fits) i

-- a word by its place
pub word_in : (bytes : List ℕ) (i n : ℕ) → length bytes ≡ 2 * n → i < n → word_at bytes (2 * i) ≡ get_or (words_in bytes) i 0
word_in [] i n e h = absurd (omega (arith, e))
word_in (byte ∷ []) i n e h = absurd (omega (arith, e))
word_in (high ∷ low ∷ bytes) i zero e h = absurd (omega arith)
word_in (high ∷ low ∷ bytes) zero (suc n) e h = refl
word_in (high ∷ low ∷ bytes) (suc i) (suc n) e h =
    let k : 2 * suc i ≡ suc (suc (2 * i)) = omega arith in
    let m : 2 * suc i + 1 ≡ suc (suc (2 * i + 1)) = omega arith in
    ap (λ p. 256 * get_or (high ∷ low ∷ bytes) p 0 + get_or (high ∷ low ∷ bytes) (2 * suc i + 1) 0) k
    ∙ ap (λ p. 256 * get_or bytes (2 * i) 0 + get_or (high ∷ low ∷ bytes) p 0) m
    ∙ word_in bytes i n (omega (arith, e)) (omega arith)

-- ---- what follows from the law of words

module _ (words : WordsAreTheirBytes) where
  pub words_spell : (bytes : List ℕ) (n : ℕ) → AreBytes bytes → length bytes ≡ 2 * n → bytes ≡ bytes_of_words (words_in bytes)
  words_spell [] n fits e = refl
  words_spell (byte ∷ []) n fits e = absurd (omega (arith, e))
  words_spell (high ∷ low ∷ bytes) zero fits e = absurd (omega (arith, e))
  words_spell (high ∷ low ∷ bytes) (suc n) fits e =
      let rest : bytes ≡ bytes_of_words (words_in bytes) = words_spell bytes n (tail_bytes high low bytes fits) (omega (arith, e)) in
      ap (λ more. high ∷ low ∷ more) rest ∙ ap (λ two. two ++ bytes_of_words (words_in bytes)) (sym (words.word_of high low (fits 0) (fits 1)))

  -- bytes of the length of a shape are a body of it, with the words that they write
  pub body_of_bytes : (shape : Shape) (bytes : List ℕ) → AreBytes bytes → length bytes ≡ 2 * word_count_of shape → IsBody shape bytes (words_in bytes)
  body_of_bytes shape bytes fits e = record {
    count = words_count bytes (word_count_of shape) e;
    fits = words_fit bytes fits;
    spelled = words_spell bytes (word_count_of shape) fits e;
  }

  -- and its only one
  pub one_body : (shape : Shape) (bytes xs : List ℕ) → AreBytes bytes → IsBody shape bytes xs → xs ≡ words_in bytes
  one_body shape bytes xs fits h =
      let len : length bytes ≡ 2 * word_count_of shape = ap length h.spelled ∙ length-bytes_of_words xs ∙ ap (λ n. 2 * n) h.count in
      let body : IsBody shape bytes (words_in bytes) = body_of_bytes shape bytes fits len in
      same_words words xs (words_in bytes) (h.count ∙ sym body.count) h.fits body.fits (sym h.spelled ∙ body.spelled)

-- the words of joined bytes, where an even number stands in front
pub words_in_append : (n : ℕ) (front back : List ℕ) → length front ≡ 2 * n → words_in (front ++ back) ≡ words_in front ++ words_in back
words_in_append n [] back even = refl
words_in_append n (byte ∷ []) back even = absurd (omega (arith, even))
words_in_append zero (high ∷ low ∷ front) back even = absurd (omega (arith, even))
words_in_append (suc n) (high ∷ low ∷ front) back even = ap (λ (words : List ℕ). (256 * high + low) ∷ words) (words_in_append n front back (omega (arith, even)))

-- the words of bytes that are cut behind so many words
pub words_in_two : (n : ℕ) (bytes front back : List ℕ) → 2 * n ≤ length bytes → front ≡ take (2 * n) bytes → back ≡ drop (2 * n) bytes
    → words_in front ++ words_in back ≡ words_in bytes
words_in_two n bytes front back room f b = rw (f, b)
    (sym (words_in_append n (take (2 * n) bytes) (drop (2 * n) bytes) (length-take-le (2 * n) bytes room)) ∙ ap words_in (take-append-drop (2 * n) bytes))
