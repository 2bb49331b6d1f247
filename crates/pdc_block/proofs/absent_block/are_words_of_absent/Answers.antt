use Rattle.std.proofs.Common.{◌≡◌, ℕ, ◌+◌, ◌-◌, ◌*◌, List, [], ◌∷◌, ◌++◌, length, get_or, take, drop, replicate, sym, ◌∙◌, ap, subst, arith, length-drop, suc}
use Rattle.std.proofs.lemmas.Bool.{false≢true}
use Rattle.std.proofs.Math.Seq.{take-append_seam, drop-append_seam}
use Rattle.std.proofs.lemmas.List.{length-replicate, length-take-le, take_all, take-append-drop}
use Rattle.pdc_block.proofs.AbsentWords.{parts, rest_of}
use Rattle.pdc_block.proofs.absent_block.are_words_of_absent.Goals as goal

alike : (xs : List ℕ) (n w : ℕ) → xs ≡ replicate n w → xs ≡ replicate (length xs) w
alike xs n w e = e ∙ ap (λ k. replicate k w) (sym (ap length e ∙ length-replicate n w))

both : (ws : List ℕ) (n d : ℕ) → length ws ≡ n + d → take n ws ≡ replicate (length (take n ws)) 0x8000 → drop n ws ≡ replicate (length (drop n ws)) 0 → ws ≡ replicate n 0x8000 ++ replicate d 0
both ws n d e f g =
    let front : length (take n ws) ≡ n = length-take-le n ws (omega (arith, e)) in
    let back : length (drop n ws) ≡ d = omega (arith, e, length-drop n ws) in
    sym (take-append-drop n ws) ∙ ap (λ (xs : List ℕ). xs ++ drop n ws) (f ∙ ap (λ k. replicate k 0x8000) front) ∙ ap (λ (xs : List ℕ). replicate n 0x8000 ++ xs) (g ∙ ap (λ k. replicate k 0) back)

is_so : (words : List ℕ) (p a d : ℕ) → length words ≡ 3 + 2 * p + a + d → get_or words 0 0 ≡ 0xA1F0
    → take (length words - d - 1) (drop 1 words) ≡ replicate (length (take (length words - d - 1) (drop 1 words))) 0x8000
    → drop (length words - d) words ≡ replicate (length (drop (length words - d) words)) 0 → words ≡ 0xA1F0 ∷ rest_of p a d
is_so [] p a d e h f g = absurd (omega (arith, e))
is_so (w ∷ ws) p a d e h f g =
    let m : length (w ∷ ws) - d - 1 ≡ 2 * p + suc (suc a) = omega (arith, e) in
    let v : length (w ∷ ws) - d ≡ suc (2 * p + suc (suc a)) = omega (arith, e) in
    let rest : ws ≡ replicate (2 * p + suc (suc a)) 0x8000 ++ replicate d 0 =
    both ws (2 * p + suc (suc a)) d (omega (arith, e)) (subst (λ k. take k ws ≡ replicate (length (take k ws)) 0x8000) m f) (subst (λ k. drop k (w ∷ ws) ≡ replicate (length (drop k (w ∷ ws))) 0) v g) in
    ap (λ k. k ∷ ws) h ∙ ap (λ (xs : List ℕ). 0xA1F0 ∷ xs) (rest ∙ sym (parts p a d))

front_so : (words : List ℕ) (p a d : ℕ) → length words ≡ 3 + 2 * p + a + d → words ≡ 0xA1F0 ∷ rest_of p a d
    → take (length words - d - 1) (drop 1 words) ≡ replicate (length (take (length words - d - 1) (drop 1 words))) 0x8000
front_so words p a d e h =
    let n : ℕ = 2 * p + suc (suc a) in
    let m : length words - d - 1 ≡ 2 * p + suc (suc a) = omega (arith, e) in
    alike (take (length words - d - 1) (drop 1 words)) n 0x8000
    (ap (λ k. take k (drop 1 words)) m ∙ ap (λ xs. take n (drop 1 xs)) (h ∙ ap (λ (xs : List ℕ). 0xA1F0 ∷ xs) (parts p a d))
    ∙ ap (λ k. take k (replicate n 0x8000 ++ replicate d 0)) (sym (length-replicate n 0x8000)) ∙ take-append_seam (replicate n 0x8000) (replicate d 0))

back_so : (words : List ℕ) (p a d : ℕ) → length words ≡ 3 + 2 * p + a + d → words ≡ 0xA1F0 ∷ rest_of p a d
    → drop (length words - d) words ≡ replicate (length (drop (length words - d) words)) 0
back_so words p a d e h =
    let n : ℕ = 2 * p + suc (suc a) in
    let v : length words - d ≡ suc (2 * p + suc (suc a)) = omega (arith, e) in
    alike (drop (length words - d) words) d 0
    (ap (λ k. drop k words) v ∙ ap (drop (suc n)) (h ∙ ap (λ (xs : List ℕ). 0xA1F0 ∷ xs) (parts p a d))
    ∙ ap (λ k. drop k (replicate n 0x8000 ++ replicate d 0)) (sym (length-replicate n 0x8000)) ∙ drop-append_seam (replicate n 0x8000) (replicate d 0))

-- a slice up to the end
whole : (words : List ℕ) (k : ℕ) → take (length words - k) (drop k words) ≡ drop k words
whole words k = take_all (length words - k) (drop k words) (omega (arith, length-drop k words))

pub returns-then-are_all : goal.returns-then-are_all
returns-then-are_all c =
    let len : length c.args.words.now ≡ 3 + 2 * c.args.shape.phasors + c.args.shape.analogs + c.from.result = omega (arith, c.requires, c.from.ensures) in
    let same : 0xA1F0 ∷ rest_of c.args.shape.phasors c.args.shape.analogs c.from.result ≡ 0xA1F0 ∷ rest_of c.args.shape.phasors c.args.shape.analogs c.args.shape.digitals =
    ap (λ d. 0xA1F0 ∷ rest_of c.args.shape.phasors c.args.shape.analogs d) c.from.ensures in (
      λ t. is_so c.args.words.now c.args.shape.phasors c.args.shape.analogs c.from.result len c.if-words.false
          (c.are_all.ensures.0 c.if-are_all.true) (subst (λ (xs : List ℕ). xs ≡ replicate (length xs) 0) (whole c.args.words.now (length c.args.words.now - c.from.result)) (c.are_all-then-are_all.ensures.0 t)) ∙ same,
      λ h. c.are_all-then-are_all.ensures.1 (subst (λ (xs : List ℕ). xs ≡ replicate (length xs) 0) (sym (whole c.args.words.now (length c.args.words.now - c.from.result)))
          (back_so c.args.words.now c.args.shape.phasors c.args.shape.analogs c.from.result len (h ∙ sym same))),
    )

pub returns-else-are_all : goal.returns-else-are_all
returns-else-are_all c =
    let len : length c.args.words.now ≡ 3 + 2 * c.args.shape.phasors + c.args.shape.analogs + c.from.result = omega (arith, c.requires, c.from.ensures) in
    let same : 0xA1F0 ∷ rest_of c.args.shape.phasors c.args.shape.analogs c.from.result ≡ 0xA1F0 ∷ rest_of c.args.shape.phasors c.args.shape.analogs c.args.shape.digitals =
    ap (λ d. 0xA1F0 ∷ rest_of c.args.shape.phasors c.args.shape.analogs d) c.from.ensures in (
      λ t. absurd (false≢true (sym c.if-are_all.false ∙ t)),
      λ h. c.are_all.ensures.1 (front_so c.args.words.now c.args.shape.phasors c.args.shape.analogs c.from.result len (h ∙ sym same)),
    )
