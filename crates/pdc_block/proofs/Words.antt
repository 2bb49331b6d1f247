-- Words and their bytes: as many words as bytes have room for are told by their bytes.
use Rattle.std.proofs.Common.{◌≡◌, ℕ, zero, suc, ◌+◌, ◌*◌, ◌^◌, ◌<◌, ◌≤◌, List, [], ◌∷◌, ◌++◌, get_or, length, take, drop, refl, sym, ap, ◌∙◌, arith, length-append}
use Rattle.std.specs.Prelude.{sum_by}
use Rattle.std.specs.Int.{w16, to_be_bytes}
use Rattle.std.proofs.lemmas.List.{append-nil, append_assoc, drop_more, take-append-drop}
use Rattle.std.proofs.lemmas.Grind.{flat_map-append}
use Rattle.std.proofs.Math.Seq.{take-add}
use Rattle.std.proofs.lemmas.List.Sums.{sum_by-cons}
use Rattle.pdc_cfg.specs.pdc_frame.Bytes.{AreBytes, word_at}
use Rattle.pdc_cfg.specs.pdc_frame.Parts.{WordsAreTheirBytes, PartsKeepTheirWords}
use Rattle.pdc_cfg.specs.declared.shape.Shape.{Shape}
use Rattle.pdc_cfg.specs.Shape.{word_count_of}
use Rattle.pdc_block.specs.Block.{AreWords, bytes_of_words, body_len_of, AreOfShapes, bytes_of_blocks}

pub length-bytes_of_words : (words : List ℕ) → length (bytes_of_words words) ≡ 2 * length words
length-bytes_of_words [] = omega arith
length-bytes_of_words (w ∷ words) = omega (arith, length-bytes_of_words words)

pub length-bytes_of_blocks : (shapes : List Shape) (xs : List (List ℕ)) → AreOfShapes shapes xs → length (bytes_of_blocks xs) ≡ sum_by body_len_of shapes
length-bytes_of_blocks [] [] h = refl
length-bytes_of_blocks [] (x ∷ xs) h = absurd h
length-bytes_of_blocks (s ∷ shapes) [] h = absurd h
length-bytes_of_blocks (s ∷ shapes) (x ∷ xs) h = omega (arith, length-append (bytes_of_words x) (bytes_of_blocks xs), length-bytes_of_words x, h.0, length-bytes_of_blocks shapes xs h.2, sum_by-cons body_len_of s shapes)

-- one more word
pub AreWords-push : (words : List ℕ) (w : ℕ) → AreWords words → w < 2 ^ 16 → AreWords (words ++ w ∷ [])
AreWords-push [] w h fits zero = fits
AreWords-push [] w h fits (suc i) = omega arith
AreWords-push (x ∷ words) w h fits zero = h 0
AreWords-push (x ∷ words) w h fits (suc i) = AreWords-push words w (λ j. h (suc j)) fits i

-- the bytes of one more block
pub bytes_of_blocks-push : (xs : List (List ℕ)) (x payload : List ℕ) (place n : ℕ) → bytes_of_blocks xs ≡ take place payload → bytes_of_words x ≡ take n (drop place payload)
    → bytes_of_blocks (xs ++ x ∷ []) ≡ take (place + n) payload
bytes_of_blocks-push xs x payload place n e here =
    flat_map-append bytes_of_words xs (x ∷ []) ∙ ap (λ (t : List ℕ). t ++ (bytes_of_words x ++ [])) e ∙ ap (λ (t : List ℕ). take place payload ++ t) (append-nil (bytes_of_words x) ∙ here) ∙ sym (take-add place n payload)

-- one more block
pub AreOfShapes-push : (shapes : List Shape) (xs : List (List ℕ)) (s : Shape) (x : List ℕ) → AreOfShapes shapes xs → length x ≡ word_count_of s → AreWords x → AreOfShapes (shapes ++ s ∷ []) (xs ++ x ∷ [])
AreOfShapes-push [] [] s x h count fits = (count, fits, tt)
AreOfShapes-push [] (y ∷ xs) s x h count fits = absurd h
AreOfShapes-push (t ∷ shapes) [] s x h count fits = absurd h
AreOfShapes-push (t ∷ shapes) (y ∷ xs) s x h count fits = (h.0, h.1, AreOfShapes-push shapes xs s x h.2 count fits)

-- ---- eight words at once

next_word : (words : List ℕ) (at next n : ℕ) → next ≡ at + 1 → at + suc n ≤ length words → take (suc n) (drop at words) ≡ get_or words at 0 ∷ take n (drop next words)
next_word words at next n e l =
    ap (take (suc n)) (drop_more words at 0 (omega (arith, l))) ∙ ap (λ (m : ℕ). get_or words at 0 ∷ take n (drop m words)) (sym e)

pub eight_from : (words : List ℕ) (at : ℕ) → at + 8 ≤ length words
    → take 8 (drop at words) ≡ get_or words at 0 ∷ get_or words (at + 1) 0 ∷ get_or words (at + 2) 0 ∷ get_or words (at + 3) 0
    ∷ get_or words (at + 4) 0 ∷ get_or words (at + 5) 0 ∷ get_or words (at + 6) 0 ∷ get_or words (at + 7) 0 ∷ []
eight_from words at l =
    next_word words at (at + 1) 7 (omega arith) (omega (arith, l)) ∙ ap (λ (r : List ℕ). get_or words at 0 ∷ r) (
    next_word words (at + 1) (at + 2) 6 (omega arith) (omega (arith, l)) ∙ ap (λ (r : List ℕ). get_or words (at + 1) 0 ∷ r) (
    next_word words (at + 2) (at + 3) 5 (omega arith) (omega (arith, l)) ∙ ap (λ (r : List ℕ). get_or words (at + 2) 0 ∷ r) (
    next_word words (at + 3) (at + 4) 4 (omega arith) (omega (arith, l)) ∙ ap (λ (r : List ℕ). get_or words (at + 3) 0 ∷ r) (
    next_word words (at + 4) (at + 5) 3 (omega arith) (omega (arith, l)) ∙ ap (λ (r : List ℕ). get_or words (at + 4) 0 ∷ r) (
    next_word words (at + 5) (at + 6) 2 (omega arith) (omega (arith, l)) ∙ ap (λ (r : List ℕ). get_or words (at + 5) 0 ∷ r) (
    next_word words (at + 6) (at + 7) 1 (omega arith) (omega (arith, l)) ∙ ap (λ (r : List ℕ). get_or words (at + 6) 0 ∷ r) (
    next_word words (at + 7) (at + 8) 0 (omega arith) (omega (arith, l)))))))))

-- four words at once
pub four_from : (words : List ℕ) (at : ℕ) → at + 4 ≤ length words
    → take 4 (drop at words) ≡ get_or words at 0 ∷ get_or words (at + 1) 0 ∷ get_or words (at + 2) 0 ∷ get_or words (at + 3) 0 ∷ []
four_from words at l =
    next_word words at (at + 1) 3 (omega arith) (omega (arith, l)) ∙ ap (λ (r : List ℕ). get_or words at 0 ∷ r) (
    next_word words (at + 1) (at + 2) 2 (omega arith) (omega (arith, l)) ∙ ap (λ (r : List ℕ). get_or words (at + 1) 0 ∷ r) (
    next_word words (at + 2) (at + 3) 1 (omega arith) (omega (arith, l)) ∙ ap (λ (r : List ℕ). get_or words (at + 2) 0 ∷ r) (
    next_word words (at + 3) (at + 4) 0 (omega arith) (omega (arith, l)))))

abbrev pub joined_four : (a b c d : List ℕ) → List ℕ
joined_four a b c d = get_or a 0 0 ∷ get_or a 1 0 ∷ get_or b 0 0 ∷ get_or b 1 0 ∷ get_or c 0 0 ∷ get_or c 1 0 ∷ get_or d 0 0 ∷ get_or d 1 0 ∷ []

-- the bytes of eight words, each by its place
abbrev pub joined : (a b c d e f g h : List ℕ) → List ℕ
joined a b c d e f g h =
    get_or a 0 0 ∷ get_or a 1 0 ∷ get_or b 0 0 ∷ get_or b 1 0 ∷ get_or c 0 0 ∷ get_or c 1 0 ∷ get_or d 0 0 ∷ get_or d 1 0
    ∷ get_or e 0 0 ∷ get_or e 1 0 ∷ get_or f 0 0 ∷ get_or f 1 0 ∷ get_or g 0 0 ∷ get_or g 1 0 ∷ get_or h 0 0 ∷ get_or h 1 0 ∷ []

-- words behind words
words_behind : (old content front back : List ℕ) → content ≡ old ++ bytes_of_words front → content ++ bytes_of_words back ≡ old ++ bytes_of_words (front ++ back)
words_behind old content front back e =
    ap (λ (bytes : List ℕ). bytes ++ bytes_of_words back) e
    ∙ append_assoc old (bytes_of_words front) (bytes_of_words back)
    ∙ ap (λ (bytes : List ℕ). old ++ bytes) (sym (flat_map-append (to_be_bytes w16) front back))

-- eight words more,
pub more_words : (words old content : List ℕ) (at : ℕ) → content ≡ old ++ bytes_of_words (take at words)
    → content ++ bytes_of_words (take 8 (drop at words)) ≡ old ++ bytes_of_words (take (at + 8) words)
more_words words old content at e =
    words_behind old content (take at words) (take 8 (drop at words)) e ∙ ap (λ (front : List ℕ). old ++ bytes_of_words front) (sym (take-add at 8 words))

-- and the last
pub last_words : (words rest old content : List ℕ) (at : ℕ) → content ≡ old ++ bytes_of_words (take at words) → rest ≡ drop at words
    → content ++ bytes_of_words rest ≡ old ++ bytes_of_words words
last_words words rest old content at e is =
    words_behind old content (take at words) rest e
    ∙ ap (λ (front : List ℕ). old ++ bytes_of_words front) (ap (λ (back : List ℕ). take at words ++ back) is ∙ take-append-drop at words)

-- ---- what follows from the laws of words and of parts

module _ (words : WordsAreTheirBytes) where
  -- a word is told by its bytes
  same_word : (m n : ℕ) → m < 2 ^ 16 → n < 2 ^ 16 → to_be_bytes w16 m ≡ to_be_bytes w16 n → m ≡ n
  same_word m n m_fits n_fits e = sym (words.word m m_fits) ∙ ap (λ (t : List ℕ). word_at t 0) e ∙ words.word n n_fits

  -- words are told by their bytes
  pub same_words : (xs ys : List ℕ) → length xs ≡ length ys → AreWords xs → AreWords ys → bytes_of_words xs ≡ bytes_of_words ys → xs ≡ ys
  same_words [] [] len hx hy e = refl
  same_words [] (y ∷ ys) len hx hy e = absurd (omega arith)
  same_words (x ∷ xs) [] len hx hy e = absurd (omega arith)
  same_words (x ∷ xs) (y ∷ ys) len hx hy e =
      let first : x ≡ y = same_word x y (hx 0) (hy 0) (ap (take 2) e) in
      let others : xs ≡ ys = same_words xs ys (omega arith) (λ i. hx (suc i)) (λ i. hy (suc i)) (ap (drop 2) e) in
      λ i. first i ∷ others i

  pub bytes_of_words-push : (bytes xs : List ℕ) (i w : ℕ) → AreBytes bytes → 2 * i + 2 ≤ length bytes → bytes_of_words xs ≡ take (2 * i) bytes → w ≡ word_at bytes (2 * i)
      → bytes_of_words (xs ++ w ∷ []) ≡ take (2 * (i + 1)) bytes
  bytes_of_words-push bytes xs i w fits long e w-is =
      let at : ℕ = 2 * i in
      let wide : 2 * (i + 1) ≡ at + 2 = omega arith in
      let here : to_be_bytes w16 w ≡ take 2 (drop at bytes) = ap (to_be_bytes w16) w-is ∙ words.word_again bytes at fits long in
      flat_map-append (to_be_bytes w16) xs (w ∷ []) ∙ ap (λ (t : List ℕ). t ++ bytes_of_words (w ∷ [])) e ∙ ap (λ (t : List ℕ). take at bytes ++ t) here
      ∙ sym (take-add at 2 bytes) ∙ ap (λ (n : ℕ). take n bytes) (sym wide)

  -- blocks are told by their bytes
  pub same_blocks : (keep : PartsKeepTheirWords) (shapes : List Shape) (xs ys : List (List ℕ)) → AreOfShapes shapes xs → AreOfShapes shapes ys → bytes_of_blocks xs ≡ bytes_of_blocks ys → xs ≡ ys
  same_blocks keep [] [] [] hx hy e = refl
  same_blocks keep [] [] (y ∷ ys) hx hy e = absurd hy
  same_blocks keep [] (x ∷ xs) ys hx hy e = absurd hx
  same_blocks keep (s ∷ shapes) [] ys hx hy e = absurd hx
  same_blocks keep (s ∷ shapes) (x ∷ xs) [] hx hy e = absurd hy
  same_blocks keep (s ∷ shapes) (x ∷ xs) (y ∷ ys) hx hy e =
      let len : length x ≡ length y = hx.0 ∙ sym hy.0 in
      let parts = keep.apart (bytes_of_words x) (bytes_of_words y) (bytes_of_blocks xs) (bytes_of_blocks ys) (omega (arith, length-bytes_of_words x, length-bytes_of_words y, len)) e in
      let first : x ≡ y = same_words x y len hx.1 hy.1 parts.0 in
      let others : xs ≡ ys = same_blocks keep shapes xs ys hx.2 hy.2 parts.1 in
      λ i. first i ∷ others i
