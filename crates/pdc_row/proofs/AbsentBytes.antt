-- The bytes of an absent block.
use Rattle.std.proofs.Common.{◌≡◌, ◌≤◌, ◌∙◌, ◌+◌, ◌-◌, ◌*◌, ◌/◌, ℕ, zero, suc, List, [], ◌∷◌, ◌++◌, ap, arith, drop, length, refl, replicate, sym, take}
use Rattle.std.proofs.Math.Seq.{take-append-add}
use Rattle.std.proofs.lemmas.List.{drop-replicate, replicate-append-replicate, take-replicate}
use Rattle.pdc_block.specs.Block.{words_in}

-- what stands behind whole words
words_behind : (n : ℕ) (xs ys : List ℕ) → length xs ≡ n + n → words_in (xs ++ ys) ≡ words_in xs ++ words_in ys
words_behind zero [] ys e = refl
words_behind zero (x ∷ xs) ys e = absurd (omega (arith, e))
words_behind (suc n) [] ys e = absurd (omega (arith, e))
words_behind (suc n) (x ∷ []) ys e = absurd (omega (arith, e))
words_behind (suc n) (x ∷ y ∷ xs) ys e = ap (λ (ws : List ℕ). (256 * x + y) ∷ ws) (words_behind n xs ys (omega (arith, e)))

zero_words : (n : ℕ) → words_in (replicate (n + n) 0) ≡ replicate n 0
zero_words zero = refl
zero_words (suc n) =
    ap (λ k. words_in (replicate k 0)) {x = suc n + suc n} {y = suc (suc (n + n))} (omega arith) ∙ ap (λ (ws : List ℕ). 0 ∷ ws) (zero_words n)

-- an absent block of p phasors, a analog values and d digital words: n words of a room that is 0, of which the first m are written
pub absent_bytes : (p a d n m k : ℕ) (front : List ℕ) → n ≡ 3 + 2 * p + a + d → m ≡ n - d → 2 * n ≤ 214 → words_in front ≡ 0xA1F0 ∷ replicate k 0x8000 → length front ≡ 2 * m → k ≡ (2 * m - 2) / 2
    → words_in (take (2 * n) (front ++ drop (2 * m) (replicate 214 0))) ≡ 0xA1F0 ∷ replicate (2 * p) 0x8000 ++ (0x8000 ∷ 0x8000 ∷ replicate a 0x8000) ++ replicate d 0
absent_bytes p a d n m k front count values fits stat long words =
    ap (λ (bs : List ℕ). words_in (take (2 * n) (front ++ bs))) (drop-replicate (2 * m) 214 0)
    ∙ ap (λ i. words_in (take i (front ++ replicate (214 - 2 * m) 0))) {x = 2 * n} {y = length front + (2 * n - length front)} (omega (arith, long, values))
    ∙ ap words_in (take-append-add front (replicate (214 - 2 * m) 0) (2 * n - length front))
    ∙ ap (λ (bs : List ℕ). words_in (front ++ bs)) (take-replicate (2 * n - length front) (214 - 2 * m) 0 (omega (arith, long, fits, values)))
    ∙ ap (λ i. words_in (front ++ replicate i 0)) {x = 2 * n - length front} {y = d + d} (omega (arith, long, values, count))
    ∙ words_behind m front (replicate (d + d) 0) (omega (arith, long))
    ∙ ap (λ (ws : List ℕ). ws ++ words_in (replicate (d + d) 0)) (stat ∙ ap (λ i. 0xA1F0 ∷ replicate i 0x8000) {x = k} {y = 2 * p + suc (suc a)} (omega (arith, words, values, count)))
    ∙ ap (λ (ds : List ℕ). (0xA1F0 ∷ replicate (2 * p + suc (suc a)) 0x8000) ++ ds) (zero_words d)
    ∙ ap (λ (ws : List ℕ). 0xA1F0 ∷ (ws ++ replicate d 0)) (sym (replicate-append-replicate (2 * p) (suc (suc a)) 0x8000))
