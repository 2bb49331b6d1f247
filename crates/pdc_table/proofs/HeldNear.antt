-- An instant that is held is near all that are.
use Rattle.std.proofs.Common.{◌≡◌, ℕ, ◌+◌, ◌<◌, ◌≤◌, ◌++◌, true, ◌&&◌, ◌||◌, eqb, ltb, List, [], ◌∷◌, refl, sym, ◌∙◌, ap, subst, arith, inl, inr}
use Rattle.std.specs.List.{list_all, list_any}
use Rattle.std.proofs.lemmas.Bool.{cases_Bool, cases_eq, false≢true, lt-ltb, ne_eqb}
use Rattle.pdc_open_row.specs.pdc_row.Rising.{Rises, AreBelow, AreNear, is_near}
use Rattle.pdc_open_row.specs.pdc_row.RisingLaws.{RisingLaws}

near_both : (window i j : ℕ) → i < j + window → j < i + window → is_near window i j ≡ true
near_both window i j h k = ap (λ b. b && ltb j (i + window)) (lt-ltb i (j + window) h) ∙ lt-ltb j (i + window) k

-- rising numbers above i, and below the end of its window
all_higher : (window i low : ℕ) (ns : List ℕ) → i ≤ low → Rises low ns → AreBelow (i + window) ns → list_all (is_near window i) ns ≡ true
all_higher window i low [] l r b = refl
all_higher window i low (n ∷ ns) l r b =
    ap (λ t. t && list_all (is_near window i) ns) (near_both window i n (omega (arith, r.0)) b.0) ∙ all_higher window i n ns (omega (arith, r.0)) r.1 b.1

-- what is not the first is one of the others
among : (i n : ℕ) (ns : List ℕ) → (n ≡ i → ⊥) → list_any (λ j. eqb j i) (n ∷ ns) ≡ true → list_any (λ j. eqb j i) ns ≡ true
among i n ns m h = sym (ap (λ b. b || list_any (λ j. eqb j i) ns) (ne_eqb n i m)) ∙ h

between : (i low top : ℕ) (ns : List ℕ) → list_any (λ j. eqb j i) ns ≡ true → Rises low ns → AreBelow top ns → (low < i) × (i < top)
between i low top [] h r b = absurd (false≢true h)
between i low top (n ∷ ns) h r b = elim (cases_eq n i) [
  | inl e ↦ (omega (arith, r.0), omega (arith, b.0))
  | inr m ↦ (let p : (n < i) × (i < top) = between i n top ns (among i n ns m h) r.1 b.1 in (omega (arith, p.0, r.0), p.1))
]

pub near_held : (R : RisingLaws) (window i low : ℕ) (ns : List ℕ) → 0 < window → Rises low ns → AreNear window ns → list_any (λ j. eqb j i) ns ≡ true → list_all (is_near window i) ns ≡ true
near_held R window i low [] w r a h = refl
near_held R window i low (n ∷ ns) w r a h = elim (cases_eq n i) [
  | inl e ↦ ap (λ t. t && list_all (is_near window i) ns) (near_both window i n (omega arith) (omega arith)) ∙ all_higher window i n ns (omega arith) r.1 (subst (λ m. AreBelow (m + window) ns) e a)
  | inr m ↦ (let p : (n < i) × (i < n + window) = between i n (n + window) ns (among i n ns m h) r.1 a in
      ap (λ t. t && list_all (is_near window i) ns) (near_both window i n p.1 (omega (arith, p.0))) ∙ near_held R window i n ns w r.1 (R.near_tail low window n ns r a) (among i n ns m h))
]

pub held_behind : (i : ℕ) (cs os : List ℕ) → list_any (λ j. eqb j i) os ≡ true → list_any (λ j. eqb j i) (cs ++ os) ≡ true
held_behind i [] os h = h
held_behind i (c ∷ cs) os h = elim (cases_Bool (eqb c i)) [
  | inl t ↦ ap (λ b. b || list_any (λ j. eqb j i) (cs ++ os)) t
  | inr f ↦ ap (λ b. b || list_any (λ j. eqb j i) (cs ++ os)) f ∙ held_behind i cs os h
]
