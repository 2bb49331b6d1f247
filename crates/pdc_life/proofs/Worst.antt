-- The time quality of a row is the worst of the cells that it shall show.
use Rattle.pdc_life.proofs.Names.{[], ◌+◌, ◌<◌, ◌∙◌, ◌∷◌, ◌≡◌, ◌≤◌, ◌⊎◌, AllByRecursion, ap, arith, cases_lt, CellView, chosen_of, columns_of, cons_option, eqb, filter_map, greatest, inl, inr, List, max, None, none-some, Option, quality_in, quality_of, QualityIsWorstShown, range_with_len, refl, same_Some, section_in_force, SectionFields, ShallShowSome, Some, suc, time_quality_of, zero, ℕ}
use Rattle.pdc_life.proofs.Filtered.{listed_in}
use Rattle.pdc_life.proofs.Gave.{chosen_cell, shown_cell}
use Rattle.pdc_life.proofs.Lists.{of_each}

-- ---- the greatest of some numbers is one of them, and none is greater

abbrev OneOf : ℕ → List ℕ → Type 0
OneOf x [] = ⊥
OneOf x (m ∷ ms) = (m ≡ x) ⊎ OneOf x ms

behind_max : (m n x : ℕ) (ms : List ℕ) → (max n m ≡ x) ⊎ OneOf x ms → OneOf x (n ∷ m ∷ ms)
behind_max m n x ms (inr k) = inr (inr k)
behind_max m n x ms (inl k) = elim (cases_lt n m) [
  | inl high ↦ inr (inl (omega (arith, high, k)))
  | inr low ↦ inl (omega (arith, low, k))
]

is_one : (n : ℕ) (ms : List ℕ) → OneOf (greatest n ms) (n ∷ ms)
is_one n [] = inl refl
is_one n (m ∷ ms) = behind_max m n (greatest (max n m) ms) ms (is_one (max n m) ms)

not_less : (n : ℕ) (ms : List ℕ) → n ≤ greatest n ms
not_less n [] = omega arith
not_less n (m ∷ ms) = omega (arith, not_less (max n m) ms)

none_greater : (n : ℕ) (ms : List ℕ) → AllByRecursion (λ m. m ≤ greatest n ms) ms
none_greater n [] = tt
none_greater n (m ∷ ms) = (omega (arith, not_less (max n m) ms), none_greater (max n m) ms)

none_worse : (ms : List ℕ) → AllByRecursion (λ m. m ≤ quality_of ms) ms
none_worse [] = tt
none_worse (n ∷ ms) = (not_less n ms, none_greater n ms)

worst_is_one : (ms : List ℕ) → OneOf (quality_of ms) ms ⊎ (quality_of ms ≡ 15)
worst_is_one [] = inr refl
worst_is_one (n ∷ ms) = inl (is_one n ms)

-- ---- what a column gives is among what all give

record At (h : ℕ → Option ℕ) (a n x : ℕ) : Type 0 where
  place : ℕ
  low : a ≤ place
  high : place < a + n
  gives : h place ≡ Some x

one_at : (h : ℕ → Option ℕ) (a n x : ℕ) (o : Option ℕ) → h a ≡ o → (OneOf x (filter_map h (range_with_len (a + 1) n)) → At h (a + 1) n x) → OneOf x (cons_option o (filter_map h (range_with_len (a + 1) n))) → At h a (suc n) x
one_at h a n x None e rest k = let r = rest k in record { place = r.place; low = omega (arith, r.low); high = omega (arith, r.high); gives = r.gives }
one_at h a n x (Some w) e rest (inl k) = record { place = a; low = omega arith; high = omega arith; gives = e ∙ ap Some k }
one_at h a n x (Some w) e rest (inr k) = let r = rest k in record { place = r.place; low = omega (arith, r.low); high = omega (arith, r.high); gives = r.gives }

where_one : (h : ℕ → Option ℕ) (a n x : ℕ) → OneOf x (filter_map h (range_with_len a n)) → At h a n x
where_one h a zero x k = absurd k
where_one h a (suc n) x k = one_at h a n x (h a) refl (where_one h (a + 1) n x) k

-- ---- the quality of the row

-- the section in force and the cell that a column's quality is of
chosen_with : (f : Option SectionFields) (chosen : Option CellView) (x : ℕ) → quality_in f chosen ≡ Some x
    → (section : SectionFields) × (f ≡ Some section) × (cell : CellView) × (chosen ≡ Some cell) × (time_quality_of cell ≡ x)
chosen_with None chosen x h = absurd (none-some x h)
chosen_with (Some f) None x h = absurd (none-some x h)
chosen_with (Some f) (Some cell) x h = (f, refl, cell, refl, same_Some (time_quality_of cell) x h)

given_quality : (f : Option SectionFields) (chosen : Option CellView) (section : SectionFields) (cell : CellView) → f ≡ Some section → chosen ≡ Some cell → quality_in f chosen ≡ Some (time_quality_of cell)
given_quality f chosen section cell e k = ap (λ (s : Option SectionFields). quality_in s chosen) e ∙ ap (λ (o : Option CellView). quality_in (Some section) o) k

pub quality_is_worst_shown : QualityIsWorstShown
quality_is_worst_shown g E i run =
    let h : ℕ → Option ℕ = λ c. quality_in (section_in_force g E c) (chosen_of g E c i) in
    let all = filter_map h (columns_of g) in
    let shown_one : OneOf (quality_of all) all → (cell : CellView) × ShallShowSome g E i cell × (time_quality_of cell ≡ quality_of all) = λ k.
    let at = where_one h 0 g.columns (quality_of all) k in
    let chosen = chosen_with (section_in_force g E at.place) (chosen_of g E at.place i) (quality_of all) at.gives in (
      chosen.2,
      record {
        column = at.place;
        here = omega (arith, at.high);
        section = chosen.0;
        in_force = chosen.1;
        shown = chosen_cell g E at.place i run.sound (eqb g.lanes 1) refl chosen.2 chosen.3;
      },
      chosen.4,
    ) in
    record {
      none_worse = λ cell k.
          let chosen = shown_cell g E k.column i run.sound (eqb g.lanes 1) refl cell k.shown in
          of_each (λ m. m ≤ quality_of all) all (time_quality_of cell) (none_worse all)
          (listed_in h g.columns k.column (time_quality_of cell) k.here (given_quality (section_in_force g E k.column)
          (chosen_of g E k.column i) k.section cell k.in_force chosen));
      of_one = elim (worst_is_one all) [
        | inl k ↦ inl (shown_one k)
        | inr k ↦ inr k
      ];
      of_none = λ none. elim (worst_is_one all) [
        | inl k ↦ (let s = shown_one k in absurd (none s.0 s.1))
        | inr k ↦ k
      ];
    }
