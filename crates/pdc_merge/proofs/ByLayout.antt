-- What data and layouts of a node are answered, by what is kept.
use Rattle.std.proofs.Common.{◌≡◌, ℕ, zero, suc, ◌+◌, ◌*◌, ◌<◌, Bool, true, false, ◌||◌, cond, eqb, ltb, not, List, [], ◌∷◌, ◌++◌, drop, length, map, take, refl, sym, ◌∙◌, ap, subst, arith, rules, Option, None, Some}
use Rattle.std.specs.Prelude.{nat_eq, option_map, sum}
use Rattle.std.specs.Cmp.Lexicographic.{pointwise}
use Rattle.std.specs.List.{All, AllByRecursion}
use Rattle.std.proofs.lemmas.Bool.{false≢true}
use Rattle.std.proofs.lemmas.List.Sums.{sum_by-cons}
use Rattle.pdc_block.specs.Block.{words_in}
use Rattle.pdc_cfg.specs.Section.{SectionFields}
use Rattle.pdc_cfg.specs.Shape.{word_count_of}
use Rattle.pdc_row.specs.Layout.{stamp_words}
use Rattle.pdc_row.specs.CellView.{CellView}
use Rattle.pdc_life.specs.Answer.{answer_in_time, bare}
use Rattle.pdc_arrival.specs.Stamps.{stamp_of}
use Rattle.pdc_life.specs.Arrival.{Stamp}
use Rattle.pdc_life.specs.Given.{Given}
use Rattle.pdc_life.specs.Life.{Answer, Entry, held_section, is_candidate, is_taken, section_in_force}
use Rattle.pdc_life.specs.Merger.{HeldLayout, differs_from, has_count_conflict, held_layout, is_in_force, is_older, layout_answer, merged_cells, merged_data_answer, own_words}
use Rattle.pdc_life.specs.Node.{cell_under}
use Rattle.pdc_life.specs.declared.outcome.Outcome.{Outcome}
use Rattle.pdc_life.specs.declared.outcome.Outcome.TheVariants.{Candidate, Known, Refused, Taken}
use Rattle.pdc_life.specs.declared.outcome.Refusal.{Refusal}
use Rattle.pdc_life.specs.declared.outcome.Refusal.TheVariants.{CountConflict, OldStamp, OtherStamp, WrongLength}
use Rattle.pdc_arrival.specs.Views.{section_part}
use Rattle.pdc_arrival.specs.declared.arrival.ColumnSection.{ColumnSection}
use Rattle.pdc_align.specs.Align.{ColumnState, State, StandsFor, is_left}
use Rattle.pdc_align.specs.Calls.{ColumnsStand}
use Rattle.pdc_merge.specs.Cells.{blocks_len, cells_in, conflicts_in, data_refusal, has_count}
use Rattle.pdc_merge.specs.Held.{AreInPlace, LayoutView, held_section_of, layout_at, layout_of, layouts_of}
use Rattle.pdc_merge.specs.declared.held_layout.HeldSection.{HeldSection}

abbrev Cells : Type 0
Cells = List (ℕ × CellView)

abbrev Parts : Type 0
Parts = List (ℕ × SectionFields)

-- ---- cells

-- the test of a count is that of the section in force
same_test : (o : Option SectionFields) (s : SectionFields) → has_count o s.count ≡ is_in_force s o
same_test None s = refl
same_test (Some t) s = refl

exist_of : (n : ℕ) (parts : Parts) → AllByRecursion (λ (s : HeldSection). s.column < n) (map held_section_of parts) → AllByRecursion (λ (part : ℕ × SectionFields). part.0 < n) parts
exist_of n [] e = tt
exist_of n (part ∷ parts) e = (e.0, exist_of n parts e.1)

module _ (stand : ColumnsStand) where
  cells_same : (g : Given) (E : List Entry) (a : State) (quality : ℕ) (parts : Parts) (words : List ℕ) → StandsFor g E a → AllByRecursion (λ (part : ℕ × SectionFields). part.0 < length a.columns) parts
      → cells_in a quality (map held_section_of parts) words ≡ merged_cells g E quality parts words
  cells_same g E a quality [] words stands e = refl
  cells_same g E a quality (part ∷ parts) words stands e =
      let n : ℕ = word_count_of part.1.shape in
      let cell : ℕ × CellView = (part.0, cell_under part.1 quality (take n words)) in
      let rest : Cells = cells_in a quality (map held_section_of parts) (drop n words) in
      ap (λ (column : ColumnState). cond (has_count column.in_force part.1.count) (cell ∷ []) [] ++ rest) (stand g E a part.0 stands e.0)
      ∙ ap (λ (b : Bool). cond b (cell ∷ []) [] ++ rest) (same_test (section_in_force g E part.0) part.1)
      ∙ ap (λ (cs : Cells). cond (is_in_force part.1 (section_in_force g E part.0)) (cell ∷ []) [] ++ cs) (cells_same g E a quality parts (drop n words) stands e.1)

  pub conflicts_same : (g : Given) (E : List Entry) (a : State) (parts : Parts) → StandsFor g E a → AllByRecursion (λ (part : ℕ × SectionFields). part.0 < length a.columns) parts
      → conflicts_in a parts ≡ has_count_conflict g E parts
  conflicts_same g E a [] stands e = refl
  conflicts_same g E a (part ∷ parts) stands e =
      ap (λ (column : ColumnState). (differs_from column.held part.1 || differs_from column.in_force part.1) || conflicts_in a parts) (stand g E a part.0 stands e.0)
      ∙ ap (λ (b : Bool). (differs_from (held_section g E part.0) part.1 || differs_from (section_in_force g E part.0) part.1) || b) (conflicts_same g E a parts stands e.1)

-- ---- data

len_same : (parts : Parts) → blocks_len (map held_section_of parts) ≡ sum (map (λ (part : ℕ × SectionFields). 2 * word_count_of part.1.shape) parts)
len_same [] = refl
len_same (part ∷ parts) =
    omega (
      arith,
      len_same parts,
      sum_by-cons (λ (s : HeldSection). 2 * word_count_of s.shape) (held_section_of part) (map held_section_of parts),
      sum_by-cons (λ (n : ℕ). n) (2 * word_count_of part.1.shape) (map (λ (p : ℕ × SectionFields). 2 * word_count_of p.1.shape) parts),
    )

-- the tests of data, the first cause that holds
abbrev refusal_by : (short other long : Bool) → Option Refusal
refusal_by short other long = cond short (Some WrongLength) (cond other (Some OtherStamp) (cond long (Some WrongLength) None))

abbrev answer_by : (short other long : Bool) → Answer → Answer
answer_by short other long last = cond short (bare (Refused WrongLength)) (cond other (bare (Refused OtherStamp)) (cond long (bare (Refused WrongLength)) last))

same_cause : (a b : Refusal) → Some a ≡ Some b → a ≡ b
same_cause a b e = cc

refused_by : (short other long : Bool) (last : Answer) (r : Refusal) → refusal_by short other long ≡ Some r → answer_by short other long last ≡ bare (Refused r)
refused_by true other long last r e = ap (λ (x : Refusal). bare (Refused x)) (same_cause WrongLength r e)
refused_by false true long last r e = ap (λ (x : Refusal). bare (Refused x)) (same_cause OtherStamp r e)
refused_by false false true last r e = ap (λ (x : Refusal). bare (Refused x)) (same_cause WrongLength r e)
refused_by false false false last r e = cc

read_by : (short other long : Bool) (last : Answer) → refusal_by short other long ≡ None → answer_by short other long last ≡ last
read_by true other long last e = cc
read_by false true long last e = cc
read_by false false true last e = cc
read_by false false false last e = refl

not_long : (short other long : Bool) → refusal_by short other long ≡ None → long ≡ false
not_long true other long e = cc
not_long false true long e = cc
not_long false false true e = cc
not_long false false false e = refl

abbrev is_short : List ℕ → Bool
is_short payload = ltb (length payload) 14

abbrev has_other : LayoutView → List ℕ → Bool
has_other layout payload = not (pointwise nat_eq (own_words payload) (stamp_words layout.stamp.start layout.stamp.change))

same_number : (m n : ℕ) → not (eqb m n) ≡ false → m ≡ n
same_number m n h = search rules

pub read_size : (layout : LayoutView) (payload : List ℕ) → data_refusal layout payload ≡ None → length payload ≡ 14 + blocks_len layout.sections
read_size layout payload e = same_number (length payload) (14 + blocks_len layout.sections) (not_long (is_short payload) (has_other layout payload) (not (eqb (length payload) (14 + blocks_len layout.sections))) e)

-- the answer to data under a layout, by the tests of what is kept of it
data_answer_is : (g : Given) (E : List Entry) (s i quality : ℕ) (payload : List ℕ) (held : HeldLayout)
    → merged_data_answer g E s i quality payload (Some held)
    ≡ answer_by (is_short payload) (has_other (layout_of held) payload) (not (eqb (length payload) (14 + blocks_len (map held_section_of held.sections)))) (answer_in_time g E s i (merged_cells g E quality held.sections (drop 7 (words_in payload))))
data_answer_is g E s i quality payload held =
    ap (λ n. answer_by (is_short payload) (has_other (layout_of held) payload) (not (eqb (length payload) (14 + n))) (answer_in_time g E s i (merged_cells g E quality held.sections (drop 7 (words_in payload)))))
    (sym (len_same held.sections))

same_layout : (a b : LayoutView) → Some a ≡ Some b → a ≡ b
same_layout a b e = cc

pub refused_under : (g : Given) (E : List Entry) (s i quality : ℕ) (payload : List ℕ) (layout : LayoutView) (o : Option HeldLayout) (r : Refusal) → Some layout ≡ option_map layout_of o
    → data_refusal layout payload ≡ Some r → merged_data_answer g E s i quality payload o ≡ bare (Refused r)
refused_under g E s i quality payload layout None r e h = cc
refused_under g E s i quality payload layout (Some held) r e h =
    data_answer_is g E s i quality payload held
    ∙ refused_by (is_short payload) (has_other (layout_of held) payload) (not (eqb (length payload) (14 + blocks_len (map held_section_of held.sections))))
    (answer_in_time g E s i (merged_cells g E quality held.sections (drop 7 (words_in payload)))) r
    (subst (λ (l : LayoutView). data_refusal l payload ≡ Some r) (same_layout layout (layout_of held) e) h)

module _ (stand : ColumnsStand) where
  pub read_under : (g : Given) (E : List Entry) (a : State) (s i quality : ℕ) (payload : List ℕ) (layout : LayoutView) (o : Option HeldLayout) → StandsFor g E a → Some layout ≡ option_map layout_of o
      → AreInPlace (length a.columns) layout.sections → data_refusal layout payload ≡ None
      → answer_in_time g E s i (cells_in a quality layout.sections (drop 7 (words_in payload))) ≡ merged_data_answer g E s i quality payload o
  read_under g E a s i quality payload layout None stands e place h = cc
  read_under g E a s i quality payload layout (Some held) stands e place h =
      let same : layout ≡ layout_of held = same_layout layout (layout_of held) e in
      let words : List ℕ = drop 7 (words_in payload) in
      ap (λ (l : LayoutView). answer_in_time g E s i (cells_in a quality l.sections words)) same
      ∙ ap (λ (cs : Cells). answer_in_time g E s i cs)
      (cells_same stand g E a quality held.sections words stands (exist_of (length a.columns) held.sections (subst (λ (l : LayoutView). AreInPlace (length a.columns) l.sections) same place).exist))
      ∙ sym (data_answer_is g E s i quality payload held
      ∙ read_by (is_short payload) (has_other (layout_of held) payload) (not (eqb (length payload) (14 + blocks_len (map held_section_of held.sections))))
      (answer_in_time g E s i (merged_cells g E quality held.sections words)) (subst (λ (l : LayoutView). data_refusal l payload ≡ None) same h))

-- ---- layouts

stamps_same : (o : Option HeldLayout) → option_map (λ (l : LayoutView). l.stamp) (option_map layout_of o) ≡ option_map stamp_of o
stamps_same None = refl
stamps_same (Some held) = refl

module _ (stand : ColumnsStand) where
  -- the answer to a layout, by the stamp that is kept
  pub layout_same : (g : Given) (E : List Entry) (a : State) (s : ℕ) (held : Option Stamp) (stamp : Stamp) (parts : Parts) (conflicts : Bool) (o : Outcome)
      → StandsFor g E a → AllByRecursion (λ (part : ℕ × SectionFields). part.0 < length a.columns) parts
      → layout_at (layouts_of E) s ≡ option_map layout_of (held_layout E s) → held ≡ option_map (λ (l : LayoutView). l.stamp) (layout_at (layouts_of E) s)
      → conflicts ≡ conflicts_in a parts → ((layout : Option HeldLayout) → held ≡ option_map stamp_of layout → o ≡ layout_answer layout stamp conflicts)
      → o ≡ layout_answer (held_layout E s) stamp (has_count_conflict g E parts)
  layout_same g E a s held stamp parts conflicts o stands e at is k answer =
      answer (held_layout E s) (is ∙ ap (option_map (λ (l : LayoutView). l.stamp)) at ∙ stamps_same (held_layout E s))
      ∙ ap (layout_answer (held_layout E s) stamp) (k ∙ conflicts_same stand g E a parts stands e)

tests_not_taken : (old same conflicts : Bool) → is_taken (cond old (Refused OldStamp) (cond same Known (cond conflicts (Refused CountConflict) Candidate))) ≡ false
tests_not_taken true same conflicts = refl
tests_not_taken false true conflicts = refl
tests_not_taken false false true = refl
tests_not_taken false false false = refl

layout_not_taken : (held : Option HeldLayout) (stamp : Stamp) (conflicts : Bool) → is_taken (layout_answer held stamp conflicts) ≡ false
layout_not_taken None stamp true = refl
layout_not_taken None stamp false = refl
layout_not_taken (Some held) stamp conflicts = tests_not_taken (is_older stamp held.stamp) (not (is_older held.stamp stamp)) conflicts

left_else : (o : Outcome) → is_taken o ≡ false → is_candidate o ≡ false → is_left o ≡ true
left_else Taken t c = absurd (false≢true (sym t))
left_else Candidate t c = absurd (false≢true (sym c))
left_else Known t c = refl
left_else (Refused r) t c = refl

-- a layout that is no candidate leaves the alignment
pub layout_left : (held : Option HeldLayout) (stamp : Stamp) (conflicts : Bool) (o : Outcome) → o ≡ layout_answer held stamp conflicts → is_candidate o ≡ false → is_left (layout_answer held stamp conflicts) ≡ true
layout_left held stamp conflicts o e c = left_else (layout_answer held stamp conflicts) (layout_not_taken held stamp conflicts) (ap is_candidate (sym e) ∙ c)

pub is_new : (o : Outcome) → is_candidate o ≡ true → o ≡ Candidate
is_new Taken h = absurd (false≢true h)
is_new Candidate h = refl
is_new Known h = absurd (false≢true h)
is_new (Refused r) h = absurd (false≢true h)

pub columns_are : (n : ℕ) (sections : List ColumnSection) → AllByRecursion (λ (part : ℕ × SectionFields). part.0 < n) (map section_part sections) → All (λ (s : ColumnSection). s.column < n) sections
columns_are n [] e k d l = absurd (omega (arith, l))
columns_are n (s ∷ sections) e zero d l = e.0
columns_are n (s ∷ sections) e (suc k) d l = columns_are n sections e.1 k d (omega (arith, l))
