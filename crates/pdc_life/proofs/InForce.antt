-- Cells are of the sections in force; what is in force is cleared.
use Rattle.pdc_life.proofs.Names.{[], ◌++◌, ◌==◌, ◌∙◌, ◌∷◌, ◌≡◌, ◌≤◌, AllByRecursion, any-filter_same, ap, AreSound, AreWords, arith, Bool, cell_in, CellView, cleared_count, columns_of, cond, cond_both, count_for, Data, Entry, eqb, false≢true, filter, find, first_greatest, flat_map, Given, greater, has_change, held_section, InForceIsCleared, is_adoption_of, is_newer, is_of_column, is_ready, is_take_of, IsOfSectionInForce, IsSound, IsTicked, leb, length, List, list_any, ltb, max, None, none-some, Option, option_map, ready_columns, refl, same_Some, section_in_force, SectionFields, sections_at, sections_for, Some, subst, sym, Take, take_at, takes_since_adopted, Tick, tick_answer, TickAnswer, true, word_count_of, ℕ}
use Rattle.pdc_life.specs.Cells.{CellsAreOfSections}
use Rattle.pdc_life.proofs.Lists.{appended, at_most, both, by_cases, by_each, filtered, found, May, may_each, same_number}
use Rattle.pdc_life.proofs.Steps.{at_take, run_before, ticked_before}

-- the section is there, and the cell is of it
abbrev Shaped : Option SectionFields → CellView → Type 0
Shaped f cell =
    (section : SectionFields) × (f ≡ Some section) × (cell.block.shape ≡ section.shape) × (length cell.block.words ≡ word_count_of section.shape)
    × AreWords cell.block.words

abbrev TakeShaped : Option SectionFields → ℕ → Take → Type 0
TakeShaped f c t = (cell : CellView) → cell_in c (Some t) ≡ Some cell → Shaped f cell

found_in : (g : Given) (E : List Entry) (c : ℕ) (cells : List (ℕ × CellView)) → AllByRecursion (IsOfSectionInForce g E) cells → (cell : CellView)
    → option_map (λ (p : ℕ × CellView). p.1) (find (is_of_column c) cells) ≡ Some cell → Shaped (section_in_force g E c) cell
found_in g E c [] a cell q = absurd (none-some cell q)
found_in g E c (part ∷ parts) a cell q =
    cond_both (eqb part.0 c) (Some part) (find (is_of_column c) parts)
    (λ (o : Option (ℕ × CellView)). option_map (λ (p : ℕ × CellView). p.1) o ≡ Some cell → Shaped (section_in_force g E c) cell)
    (λ e k. subst (Shaped (section_in_force g E c)) (same_Some part.1 cell k)
    (a.0.section, ap (section_in_force g E) (sym (same_number part.0 c e)) ∙ a.0.in_force, a.0.shape, a.0.count, a.0.fits))
    (λ e k. found_in g E c parts a.1 cell k) q

all_shaped : (g : Given) (E : List Entry) (c : ℕ) → AreSound g E → AllByRecursion (TakeShaped (section_in_force g E c) c) (takes_since_adopted E c)
all_shaped g [] c run = tt
all_shaped g (e ∷ E) c run =
    by_cases (λ (b : Bool). AllByRecursion (TakeShaped (cond b (held_section g E c) (section_in_force g E c)) c)
    (cond b [] (take_at e ++ takes_since_adopted E c))) (is_adoption_of c e) (λ adopted. tt)
    (λ quiet. appended (TakeShaped (section_in_force g E c) c) (take_at e) (takes_since_adopted E c)
    (at_take (TakeShaped (section_in_force g E c) c) e (λ s bytes i quality payload answer is taken cell q.
    let at : IsSound g E s (Data i quality payload) answer = (subst (λ (x : Entry). AreSound g (x ∷ E)) is run).0 in
    found_in g E c answer.cells (at.taken taken).sections cell q))
    (all_shaped g E c (run_before g e E run)))

shaped_of : (f : Option SectionFields) (s c i : ℕ) (ts : List Take) (o : Option Take) → AllByRecursion (TakeShaped f c) ts → find (is_take_of s i) ts ≡ o
    → (cell : CellView) → cell_in c o ≡ Some cell → Shaped f cell
shaped_of f s c i ts None a e cell q = absurd (none-some cell q)
shaped_of f s c i ts (Some t) a e cell q = (found (is_take_of s i) (TakeShaped f c) ts t a e).1 cell q

pub cells_are_of_sections : CellsAreOfSections
cells_are_of_sections g E s c i cell run h =
    let t : Shaped (section_in_force g E c) cell =
    shaped_of (section_in_force g E c) s c i (takes_since_adopted E c) (find (is_take_of s i) (takes_since_adopted E c))
    (all_shaped g E c run.sound) refl cell h in
    record { section = t.0; in_force = t.1; shape = t.2; count = t.3; fits = t.4 }

-- ---- what is held

-- the first greatest is one of them
pub of_first : (P : SectionFields → Type 0) (ss : List SectionFields) → AllByRecursion P ss → May P (first_greatest ss)
of_first P [] a = tt
of_first P (s ∷ ss) a = of_greater (first_greatest ss) (of_first P ss a.1)
  where
    of_greater : (held : Option SectionFields) → May P held → May P (greater held s)
    of_greater None h = a.0
    of_greater (Some held) h = cond_both (ltb held.count s.count) (Some s) (Some held) (May P) (λ e. a.0) (λ e. h)

-- what came for a column, not below the opening count
pub of_held : (P Q : SectionFields → Type 0) (g : Given) (E : List Entry) (c : ℕ) → ((s : SectionFields) → count_for c g.counts ≤ s.count → P s → Q s)
    → AllByRecursion P (flat_map (sections_at c) E) → May Q (held_section g E c)
of_held P Q g E c k a =
    of_first Q (sections_for g E c) (filtered (λ (s : SectionFields). leb (count_for c g.counts) s.count) P Q (flat_map (sections_at c) E)
    (λ s e h. k s (at_most (count_for c g.counts) s.count e) h) a)

-- What is there lies between these counts.
abbrev Between : (low high : ℕ) → SectionFields → Type 0
Between low high s = (low ≤ s.count) × (s.count ≤ high)

ready_between : (held in_force : Option SectionFields) (low cleared : ℕ) → May (λ (s : SectionFields). low ≤ s.count) held
    → is_ready held in_force cleared ≡ true → May (Between low cleared) held
ready_between None in_force low cleared n h = tt
ready_between (Some s) in_force low cleared n h = (n, at_most s.count cleared (both (is_newer s in_force) (leb s.count cleared) h).1)

-- what is listed after a filter passed its test
listed_passes : (f : ℕ → Bool) (c : ℕ) (ds : List ℕ) → list_any (λ x. x == c) (filter f ds) ≡ true → f c ≡ true
listed_passes f c ds h = (both (f c) (list_any (λ x. x == c) ds) (sym (any-filter_same (λ x. x == c) f (f c) (λ d e. ap f (same_number d c e)) ds) ∙ h)).0

-- what a tick adopts was ready
pub adopted_is_ready : (g : Given) (E : List Entry) (now : ℕ) (counts : List ℕ) (answer : TickAnswer) (c : ℕ) → answer ≡ tick_answer g E now counts
    → is_adoption_of c (Tick now counts answer) ≡ true
    → is_ready (held_section g E c) (section_in_force g E c) (max (cleared_count g E c) (count_for c counts)) ≡ true
adopted_is_ready g E now counts answer c same e =
    cond_both (has_change E) (ready_columns g E counts) [] (λ (ds : List ℕ). list_any (λ d. d == c) ds ≡ true
    → is_ready (held_section g E c) (section_in_force g E c) (max (cleared_count g E c) (count_for c counts)) ≡ true)
    (λ left k. listed_passes (λ d. is_ready (held_section g E d) (section_in_force g E d) (max (cleared_count g E d) (count_for d counts))) c (columns_of g) k)
    (λ none k. absurd (false≢true k)) (ap (λ (a : TickAnswer). list_any (λ d. d == c) a.adopted) (sym same) ∙ e)

in_force_between : (g : Given) (E : List Entry) (c : ℕ) → IsTicked g E → May (Between (count_for c g.counts) (cleared_count g E c)) (section_in_force g E c)
in_force_between g [] c run = tt
in_force_between g (Tick now counts answer ∷ E) c run =
    cond_both (is_adoption_of c (Tick now counts answer)) (held_section g E c) (section_in_force g E c)
    (May (Between (count_for c g.counts) (max (cleared_count g E c) (count_for c counts))))
    (λ e. ready_between (held_section g E c) (section_in_force g E c) (count_for c g.counts) (max (cleared_count g E c) (count_for c counts))
    (of_held (λ s. Unit {0}) (λ (s : SectionFields). count_for c g.counts ≤ s.count) g E c (λ s low h. low)
    (by_each _ (flat_map (sections_at c) E) (λ s k. tt)))
    (adopted_is_ready g E now counts answer c run.0 e))
    (λ e. may_each (Between (count_for c g.counts) (cleared_count g E c)) (Between (count_for c g.counts) (max (cleared_count g E c) (count_for c counts)))
    (section_in_force g E c)
    (λ s b. (b.0, omega (arith, b.1))) (in_force_between g E c run.1))
in_force_between g (e ∷ E) c run = in_force_between g E c (ticked_before g e E run)

pub in_force_is_cleared : InForceIsCleared
in_force_is_cleared g E c s run h = subst (May (Between (count_for c g.counts) (cleared_count g E c))) h (in_force_between g E c run)
