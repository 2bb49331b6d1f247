use Rattle.std.proofs.Common.{◌≡◌, ℕ, zero, suc, ◌*◌, List, [], ◌∷◌, ap, arith, drop, eqb, length, refl, ◌∙◌}
use Rattle.std.specs.List.{slice_index}
use Rattle.std.specs.Cmp.Lexicographic.{pointwise}
use Rattle.pdc_life.specs.pdc_block.Block.{words_in}
use Rattle.pdc_life.specs.pdc_row.Layout.{stamp_words}
use Rattle.pdc_arrival.proofs.own_block.bears.Goals as goal

word_count : (n : ℕ) (bytes : List ℕ) → length bytes ≡ 2 * n → length (words_in bytes) ≡ n
word_count zero [] e = refl
word_count (suc n) [] e = absurd (omega (arith, e))
word_count n (high ∷ []) e = absurd (omega (arith, e))
word_count zero (high ∷ low ∷ bytes) e = absurd (omega (arith, e))
word_count (suc n) (high ∷ low ∷ bytes) e = ap suc (word_count n bytes (omega (arith, e)))

-- of seven words those behind the third
four_behind : (words : List ℕ) → length words ≡ 7 → slice_index words 3 ∷ slice_index words 4 ∷ slice_index words 5 ∷ slice_index words 6 ∷ [] ≡ drop 3 words
four_behind (a ∷ b ∷ c ∷ d ∷ e ∷ f ∷ g ∷ []) h = refl
four_behind [] h = absurd (omega (arith, h))
four_behind (a ∷ []) h = absurd (omega (arith, h))
four_behind (a ∷ b ∷ []) h = absurd (omega (arith, h))
four_behind (a ∷ b ∷ c ∷ []) h = absurd (omega (arith, h))
four_behind (a ∷ b ∷ c ∷ d ∷ []) h = absurd (omega (arith, h))
four_behind (a ∷ b ∷ c ∷ d ∷ e ∷ []) h = absurd (omega (arith, h))
four_behind (a ∷ b ∷ c ∷ d ∷ e ∷ f ∷ []) h = absurd (omega (arith, h))
four_behind (a ∷ b ∷ c ∷ d ∷ e ∷ f ∷ g ∷ i ∷ words) h = absurd (omega (arith, h))

four_same : (a b c d p q r s : ℕ) → a ≡ p → b ≡ q → c ≡ r → d ≡ s → ◌≡◌ {A = List ℕ} (a ∷ b ∷ c ∷ d ∷ []) (p ∷ q ∷ r ∷ s ∷ [])
four_same a b c d p q r s e f g h =
    ap (λ (n : ℕ). n ∷ b ∷ c ∷ d ∷ []) e ∙ ap (λ (n : ℕ). p ∷ n ∷ c ∷ d ∷ []) f ∙ ap (λ (n : ℕ). p ∷ q ∷ n ∷ d ∷ []) g ∙ ap (λ (n : ℕ). p ∷ q ∷ r ∷ n ∷ []) h

pub returns : goal.returns
returns c =
    let words : List ℕ = words_in c.args.own.now in
    let own : List ℕ = c.word.result ∷ c.word-2.result ∷ c.word-3.result ∷ c.word-4.result ∷ [] in
    let is_behind : own ≡ drop 3 words =
    four_same _ _ _ _ _ _ _ _ c.word.ensures c.word-2.ensures c.word-3.ensures c.word-4.ensures ∙ four_behind words (word_count 7 c.args.own.now (omega (arith, c.requires))) in
    c.eq.ensures ∙ ap (pointwise eqb own) c.words.ensures
    ∙ ap (λ (four : List ℕ). pointwise eqb four (stamp_words c.args.stamp.start c.args.stamp.change)) is_behind
