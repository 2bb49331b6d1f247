-- The words of an absent block.
use Rattle.std.proofs.Common.{◌≡◌, ◌<◌, ◌≤◌, ◌^◌, ℕ, zero, suc, ◌+◌, ◌*◌, Bool, true, false, ◌&&◌, List, [], ◌∷◌, ◌++◌, eqb, get_or, length, replicate, take, refl, sym, ap, ◌∙◌, subst, arith}
use Rattle.pdc_block.specs.Block.{AreWords}
use Rattle.std.proofs.lemmas.Bool.{eq-eqb, eqb-true, false≢true}
use Rattle.std.proofs.lemmas.List.{replicate-append-replicate, take_more}

-- those behind STAT: values, and digital words
abbrev pub rest_of : (p a d : ℕ) → List ℕ
rest_of p a d = replicate (2 * p) 0x8000 ++ (0x8000 ∷ 0x8000 ∷ replicate a 0x8000) ++ replicate d 0

pub parts : (p a d : ℕ) → rest_of p a d ≡ replicate (2 * p + suc (suc a)) 0x8000 ++ replicate d 0
parts p a d = ap (λ (xs : List ℕ). xs ++ replicate d 0) (replicate-append-replicate (2 * p) (suc (suc a)) 0x8000)

-- ---- they are words

pub words-append : (xs ys : List ℕ) → AreWords xs → AreWords ys → AreWords (xs ++ ys)
words-append [] ys hx hy i = hy i
words-append (x ∷ xs) ys hx hy zero = hx zero
words-append (x ∷ xs) ys hx hy (suc i) = words-append xs ys (λ j. hx (suc j)) hy i

pub words-replicate : (n w : ℕ) → w < 2 ^ 16 → AreWords (replicate n w)
words-replicate zero w h i = omega arith
words-replicate (suc n) w h zero = h
words-replicate (suc n) w h (suc i) = words-replicate n w h i

pub absent_fits : (p a d : ℕ) → AreWords (0xA1F0 ∷ rest_of p a d)
absent_fits p a d zero = omega arith
absent_fits p a d (suc i) =
    subst AreWords (sym (parts p a d))
    (words-append (replicate (2 * p + suc (suc a)) 0x8000) (replicate d 0) (words-replicate (2 * p + suc (suc a)) 0x8000 (omega arith)) (words-replicate d 0 (omega arith))) i

-- ---- words that all are one

-- the first so many are this one
abbrev pub first_are : ℕ → List ℕ → (w : ℕ) → Bool
first_are zero words w = true
first_are (suc n) words w = first_are n words w && eqb (get_or words n 0) w

both : (a b : Bool) → (a && b) ≡ true → (a ≡ true) × (b ≡ true)
both true b e = (refl, e)
both false b e = absurd (false≢true e)

pub taken_are : (n : ℕ) (words : List ℕ) (w : ℕ) → n ≤ length words → first_are n words w ≡ true → take n words ≡ replicate n w
taken_are zero words w h e = refl
taken_are (suc n) words w h e =
    let two = both (first_are n words w) (eqb (get_or words n 0) w) e in
    let next : suc n ≡ n + 1 = omega arith in
    ap (λ k. take k words) next ∙ take_more words n 0 (omega (arith, h))
    ∙ ap (λ (t : List ℕ). t ++ get_or words n 0 ∷ []) (taken_are n words w (omega (arith, h)) two.0)
    ∙ ap (λ k. replicate n w ++ k ∷ []) (eqb-true (get_or words n 0) w two.1)
    ∙ replicate-append-replicate n 1 w ∙ ap (λ k. replicate k w) (sym next)

at_each : (m n w : ℕ) → n < m → get_or (replicate m w) n 0 ≡ w
at_each zero n w h = absurd (omega (arith, h))
at_each (suc m) zero w h = refl
at_each (suc m) (suc n) w h = at_each m n w (omega (arith, h))

pub are_first : (n m w : ℕ) → n ≤ m → first_are n (replicate m w) w ≡ true
are_first zero m w h = refl
are_first (suc n) m w h = rw (are_first n m w (omega (arith, h))) (eq-eqb (get_or (replicate m w) n 0) w (at_each m n w (omega (arith, h))))
