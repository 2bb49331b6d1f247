-- What data of a node gives at the merger, part by part.
use Rattle.std.proofs.Common.{◌≡◌, ℕ, ◌+◌, ◌*◌, ◌≤◌, Bool, true, false, List, [], ◌∷◌, ◌++◌, ap, arith, cond, drop, eqb, length, ltb, map, not, refl, rules, sym, take, ◌∙◌, Some}
use Rattle.std.specs.Prelude.{nat_eq, sum}
use Rattle.std.specs.Cmp.Lexicographic.{pointwise}
use Rattle.std.proofs.lemmas.List.{length-drop}
use Rattle.pdc_block.specs.Block.{words_in}
use Rattle.pdc_cfg.specs.Section.{SectionFields}
use Rattle.pdc_cfg.specs.Shape.{word_count_of}
use Rattle.pdc_row.specs.Layout.{stamp_words}
use Rattle.pdc_life.specs.Answer.{answer_in_time, bare}
use Rattle.pdc_life.specs.declared.outcome.Outcome.TheVariants.{Refused}
use Rattle.pdc_life.specs.declared.outcome.Refusal.TheVariants.{OtherStamp, WrongLength}
use Rattle.pdc_life.specs.Given.{Given}
use Rattle.pdc_life.specs.Life.{Answer, Entry, section_in_force}
use Rattle.pdc_life.specs.Merger.{HeldLayout, is_in_force, merged_cells, merged_data_answer, own_words, payload_len}
use Rattle.pdc_life.specs.Node.{cell_under}
use Rattle.pdc_block.specs.Laws.{WordsAreCut}

-- the cell of the first section, and those of the others
pub merged_step : WordsAreCut → (g : Given) (E : List Entry) (quality : ℕ) (part : ℕ × SectionFields) (parts : List (ℕ × SectionFields)) (n : ℕ) (front back blocks : List ℕ) → n ≡ word_count_of part.1.shape
    → front ≡ take (2 * n) blocks → back ≡ drop (2 * n) blocks
    → cond (is_in_force part.1 (section_in_force g E part.0)) ((part.0, cell_under part.1 quality (words_in front)) ∷ []) [] ++ merged_cells g E quality parts (words_in back) ≡ merged_cells g E quality (part ∷ parts) (words_in blocks)
merged_step W g E quality part parts n front back blocks size f b =
    let there : Bool = is_in_force part.1 (section_in_force g E part.0) in
    let one : words_in front ≡ take (word_count_of part.1.shape) (words_in blocks) = ap words_in f ∙ W.before n blocks ∙ ap (λ (k : ℕ). take k (words_in blocks)) size in
    let others : words_in back ≡ drop (word_count_of part.1.shape) (words_in blocks) = ap words_in b ∙ W.behind n blocks ∙ ap (λ (k : ℕ). drop k (words_in blocks)) size in
    ap (λ (ws : List ℕ). cond there ((part.0, cell_under part.1 quality ws) ∷ []) [] ++ merged_cells g E quality parts (words_in back)) one
    ∙ ap (λ (ws : List ℕ). cond there ((part.0, cell_under part.1 quality (take (word_count_of part.1.shape) (words_in blocks))) ∷ []) [] ++ merged_cells g E quality parts ws) others

none_holds : (short other long : Bool) (a b c last : Answer) → short ≡ false → other ≡ false → long ≡ false → cond short a (cond other b (cond long c last)) ≡ last
none_holds short other long a b c last h k l = rw (h, k, l) refl

long_enough : (n : ℕ) → 14 ≤ n → ltb n 14 ≡ false
long_enough n h = search rules

same_len : (m n : ℕ) → m ≡ n → not (eqb m n) ≡ false
same_len m n h = search rules

-- data that bears the held stamp, and has the length of its sections
pub merged_taken : WordsAreCut → (g : Given) (E : List Entry) (s i quality : ℕ) (payload own blocks : List ℕ) (layout : HeldLayout) → own ≡ take 14 payload → blocks ≡ drop 14 payload → 14 ≤ length payload
    → pointwise nat_eq (drop 3 (words_in own)) (stamp_words layout.stamp.start layout.stamp.change) ≡ true
    → length blocks ≡ sum (map (λ (part : ℕ × SectionFields). 2 * word_count_of part.1.shape) layout.sections)
    → merged_data_answer g E s i quality payload (Some layout) ≡ answer_in_time g E s i (merged_cells g E quality layout.sections (words_in blocks))
merged_taken W g E s i quality payload own blocks layout o b long bears size =
    let stamp : List ℕ = stamp_words layout.stamp.start layout.stamp.change in
    let words : drop 3 (words_in own) ≡ own_words payload = ap (drop 3) (ap words_in o ∙ W.before 7 payload) in
    let left : length blocks + 14 ≡ length payload = omega (arith, ap length b, length-drop 14 payload, long) in
    none_holds (ltb (length payload) 14) (not (pointwise nat_eq (own_words payload) stamp)) (not (eqb (length payload) (payload_len layout.sections)))
    (bare (Refused WrongLength)) (bare (Refused OtherStamp)) (bare (Refused WrongLength)) _
    (long_enough (length payload) long)
    (ap (λ (ws : List ℕ). not (pointwise nat_eq ws stamp)) (sym words) ∙ ap not bears)
    (same_len (length payload) (payload_len layout.sections) (omega (arith, left, size)))
    ∙ ap (λ (ws : List ℕ). answer_in_time g E s i (merged_cells g E quality layout.sections ws)) (sym (ap words_in b ∙ W.behind 7 payload))
