-- At the merger a section of a held layout with the count in force is the one in force.
use Rattle.pdc_life.proofs.Names.{[], ◌&&◌, ◌++◌, ◌+◌, ◌<◌, ◌||◌, ◌∙◌, ◌∷◌, ◌≡◌, ◌≤◌, AllByRecursion, Answer, ap, arith, Arrive, Bool, Candidate, cases_lt, cond, cond_both, count_for, CountConflict, differs_from, Entry, eqb, false, false≢true, filter, first_greatest, flat_map, Given, greater, has_count_conflict, held_layout, held_section, HeldLayout, inl, inr, is_adoption_of, is_candidate, is_of_column, is_older, IsLife, Known, Layout, layout_answer, leb, length, List, ltb, map, merged_answer, MergerSettings, nat_eq, None, not, OfMerger, OldStamp, Option, or_parts, pointwise, refl, Refused, Rises, rules, SameCountSameSection, Says, section_in_force, SectionFields, sections_at, slice_index_or, Some, Stamp, subst, suc, sym, true, zero, ℕ}
use Rattle.pdc_life.proofs.InForce.{in_force_is_cleared}
use Rattle.pdc_life.proofs.LifeLaws.{lives_are_ticked}
use Rattle.pdc_life.proofs.Lists.{above_first, both, by_each, each, is_same_text, May, may_each, none_passes, not_same, of_each}
use Rattle.pdc_life.proofs.Steps.{life_before}

-- a section is not above what is held, and one of the same count has the same bytes
abbrev Below : Option SectionFields → SectionFields → Type 0
Below None t = ⊥
Below (Some h) t = t.count ≤ h.count

abbrev pub SameAs : Option SectionFields → SectionFields → Type 0
SameAs None t = Unit {0}
SameAs (Some h) t = t.count ≡ h.count → t.bytes ≡ h.bytes

abbrev Keeps : Option SectionFields → SectionFields → Type 0
Keeps held t = Below held t × SameAs held t

abbrev passes : ℕ → SectionFields → Bool
passes low s = leb low s.count

keeps_greater : (held : Option SectionFields) (s t : SectionFields) → Keeps held t → Keeps (greater held s) t
keeps_greater None s t k = absurd k.0
keeps_greater (Some h) s t k = elim (cases_lt h.count s.count) [
  | inl l ↦ (let e : ltb h.count s.count ≡ true = search rules in rw e (omega (arith, l, k.0), λ same. absurd (omega (arith, l, k.0, same))))
  | inr m ↦ (let e : ltb h.count s.count ≡ false = search rules in rw e k)
]

keeps_if : (b : Bool) (s t : SectionFields) (ss : List SectionFields) → Keeps (first_greatest ss) t → Keeps (first_greatest (cond b (s ∷ ss) ss)) t
keeps_if true s t ss k = keeps_greater (first_greatest ss) s t k
keeps_if false s t ss k = k

keeps_more : (low : ℕ) (ss old : List SectionFields) (t : SectionFields) → Keeps (first_greatest (filter (passes low) old)) t → Keeps (first_greatest (filter (passes low) (ss ++ old))) t
keeps_more low [] old t k = k
keeps_more low (s ∷ ss) old t k = keeps_if (leb low s.count) s t (filter (passes low) (ss ++ old)) (keeps_more low ss old t k)

-- a section of a layout, that is not below the opening count, follows what is held and what is in force
abbrev pub Good : Given → List Entry → ℕ × SectionFields → Type 0
Good g E part = count_for part.0 g.counts ≤ part.1.count → Keeps (held_section g E part.0) part.1 × SameAs (section_in_force g E part.0) part.1

abbrev pub AreGood : Given → List Entry → List (ℕ × SectionFields) → Type 0
AreGood g E parts = AllByRecursion (Good g E) parts

either_same : (b : Bool) (held f : Option SectionFields) (t : SectionFields) → SameAs held t → SameAs f t → SameAs (cond b held f) t
either_same true held f t h k = h
either_same false held f t h k = k

-- one step more
good_after : (g : Given) (E : List Entry) (e : Entry) (part : ℕ × SectionFields) → Good g E part → Good g (e ∷ E) part
good_after g E e part h low =
    let k = h low in (
      keeps_more (count_for part.0 g.counts) (sections_at part.0 e) (flat_map (sections_at part.0) E) part.1 k.0,
      either_same (is_adoption_of part.0 e) (held_section g E part.0) (section_in_force g E part.0) part.1 k.0.1 k.1,
    )

-- ---- a new layout

abbrev of_column : ℕ → List (ℕ × SectionFields) → List SectionFields
of_column c parts = map (λ (part : ℕ × SectionFields). part.1) (filter (is_of_column c) parts)

not_below : (m n : ℕ) → n < m → eqb m n ≡ false
not_below m n h = search rules

abbrev columns_above : List (ℕ × SectionFields) → List ℕ
columns_above parts = map (λ (part : ℕ × SectionFields). part.0 + 1) parts

-- the columns rise, so a column above which they stand has none
none_of : (c n : ℕ) (parts : List (ℕ × SectionFields)) → c + 1 ≤ n → Rises n (columns_above parts) → filter (is_of_column c) parts ≡ []
none_of c n [] h r = refl
none_of c n (part ∷ parts) h r =
    let e : eqb part.0 c ≡ false = not_below part.0 c (omega (arith, h, r.0)) in
    rw e (none_of c (part.0 + 1) parts (omega (arith, h, r.0)) r.1)

-- so each stands alone in its column
alone : (n c : ℕ) (s : SectionFields) (parts : List (ℕ × SectionFields)) (k : ℕ) → Rises n (columns_above parts) → k < length parts
    → slice_index_or parts k (c, s) ≡ (c, s)
    → of_column c parts ≡ s ∷ []
alone n c s [] k r l e = absurd (omega (arith, l))
alone n c s (part ∷ parts) zero r l e =
    let column : part.0 ≡ c = ap (λ (p : ℕ × SectionFields). p.0) e in
    let here : eqb part.0 c ≡ true = search rules in
    let none : filter (is_of_column c) parts ≡ [] = none_of c (part.0 + 1) parts (omega (arith, column)) r.1 in
    rw (here, none) (ap (λ (p : ℕ × SectionFields). p.1 ∷ []) e)
alone n c s (part ∷ parts) (suc k) r l e =
    let above : part.0 + 1 < c + 1 = above_first (part.0 + 1) c s parts k r.1 (omega (arith, l)) e in
    let other : eqb part.0 c ≡ false = not_same part.0 c (omega (arith, above)) in
    rw other (alone (part.0 + 1) c s parts k r.1 (omega (arith, l)) e)

-- no conflict: at the same count the bytes are the same
no_conflict_with : (o : Option SectionFields) (t : SectionFields) → differs_from o t ≡ false → SameAs o t
no_conflict_with None t h = tt
no_conflict_with (Some s) t h = λ same.
    let e : eqb s.count t.count ≡ true = search rules in
    let k : not (pointwise nat_eq s.bytes t.bytes) ≡ false = sym (ap (λ (b : Bool). b && not (pointwise nat_eq s.bytes t.bytes)) e) ∙ h in
    sym (is_same_text s.bytes t.bytes (pointwise nat_eq s.bytes t.bytes) refl k)

in_order : (old same conflicts : Bool) → is_candidate (cond old (Refused OldStamp) (cond same Known (cond conflicts (Refused CountConflict) Candidate))) ≡ true → conflicts ≡ false
in_order true same conflicts h = absurd (false≢true h)
in_order false true conflicts h = absurd (false≢true h)
in_order false false true h = absurd (false≢true h)
in_order false false false h = refl

-- what the answer says of a layout that is accepted
accepted_has_none : (held : Option HeldLayout) (stamp : Stamp) (conflicts : Bool) → is_candidate (layout_answer held stamp conflicts) ≡ true → conflicts ≡ false
accepted_has_none None stamp true h = absurd (false≢true h)
accepted_has_none None stamp false h = refl
accepted_has_none (Some held) stamp conflicts h = in_order (is_older stamp held.stamp) (not (is_older held.stamp stamp)) conflicts h

new_greater : (held : Option SectionFields) (t : SectionFields) → SameAs held t → Keeps (greater held t) t
new_greater None t same = (omega arith, λ e. refl)
new_greater (Some h) t same = elim (cases_lt h.count t.count) [
  | inl l ↦ (let e : ltb h.count t.count ≡ true = search rules in rw e (omega arith, λ k. refl))
  | inr m ↦ (let e : ltb h.count t.count ≡ false = search rules in rw e (m, same))
]

new_one : (low : ℕ) (old : List SectionFields) (t : SectionFields) (b : Bool) → leb low t.count ≡ b → low ≤ t.count → SameAs (first_greatest old) t → Keeps (first_greatest (cond b (t ∷ old) old)) t
new_one low old t true e h same = new_greater (first_greatest old) t same
new_one low old t false e h same = let up : leb low t.count ≡ true = search rules in absurd (false≢true (sym e ∙ up))

new_good : (g : Given) (E : List Entry) (r : ℕ) (bytes : List ℕ) (stamp : Stamp) (parts : List (ℕ × SectionFields)) (answer : Answer)
    → is_candidate answer.outcome ≡ true
    → Rises 0 (columns_above parts) → has_count_conflict g E parts ≡ false → AreGood g (Arrive r bytes (Layout (Some stamp) parts) answer ∷ E) parts
new_good g E r bytes stamp parts answer accepted rise none =
    let apart =
    none_passes (λ (part : ℕ × SectionFields). differs_from (held_section g E part.0) part.1 || differs_from (section_in_force g E part.0) part.1) parts none in
    by_each (Good g (Arrive r bytes (Layout (Some stamp) parts) answer ∷ E)) parts (λ part among low.
    let either = or_parts (differs_from (held_section g E part.0) part.1) (differs_from (section_in_force g E part.0) part.1)
    (of_each (λ (p : ℕ × SectionFields). (differs_from (held_section g E p.0) p.1 || differs_from
    (section_in_force g E p.0) p.1) ≡ false) parts part apart among) in (
      rw (accepted, alone 0 part.0 part.1 parts among.0 rise among.1 among.2) (new_one (count_for part.0 g.counts)
          (filter (passes (count_for part.0 g.counts)) (flat_map (sections_at part.0) E)) part.1 (leb (count_for part.0 g.counts) part.1.count) refl low
          (no_conflict_with (held_section g E part.0) part.1 either.0)),
      no_conflict_with (section_in_force g E part.0) part.1 either.1,
    ))

-- ---- every life

-- what a new layout has, and each step keeps, a held layout has
pub of_held_layout : (settings : MergerSettings) (g : Given) (P : List Entry → HeldLayout → Type 0)
    → ((E : List Entry) (e : Entry) (h : HeldLayout) → P E h → P (e ∷ E) h)
    → ((E : List Entry) (r : ℕ) (bytes : List ℕ) (stamp : Stamp) (parts : List (ℕ × SectionFields)) (answer : Answer)
    → Says (OfMerger settings) r bytes (Layout (Some stamp) parts)
    → answer ≡ merged_answer g E r (Layout (Some stamp) parts) → is_candidate answer.outcome ≡ true
    → P (Arrive r bytes (Layout (Some stamp) parts) answer ∷ E) (record { stamp = stamp; sections = parts }))
    → (E : List Entry) (s : ℕ) → IsLife merged_answer (Says (OfMerger settings)) g E → May (P E) (held_layout E s)
of_held_layout settings g P keeps new [] s life = tt
of_held_layout settings g P keeps new (Arrive r bytes (Layout (Some stamp) parts) answer ∷ E) s life =
    let e : Entry = Arrive r bytes (Layout (Some stamp) parts) answer in
    cond_both ((eqb r s) && is_candidate answer.outcome) (Some (record { stamp = stamp; sections = parts })) (held_layout E s) (May (P (e ∷ E)))
    (λ here. new E r bytes stamp parts answer life.0 life.1 (both (eqb r s) (is_candidate answer.outcome) here).1)
    (λ other. may_each (P E) (P (e ∷ E)) (held_layout E s) (keeps E e) (of_held_layout settings g P keeps new E s life.2))
of_held_layout settings g P keeps new (e ∷ E) s life =
    may_each (P E) (P (e ∷ E)) (held_layout E s) (keeps E e) (of_held_layout settings g P keeps new E s
    (life_before merged_answer (Says (OfMerger settings)) g e E life))

-- each section of a held layout is good
held_are_good : (settings : MergerSettings) (g : Given) (E : List Entry) (s : ℕ) → IsLife merged_answer (Says (OfMerger settings)) g E
    → May (λ (h : HeldLayout). AreGood g E h.sections) (held_layout E s)
held_are_good settings g E s life =
    of_held_layout settings g (λ F h. AreGood g F h.sections) (λ F e h k. each (Good g F) (Good g (e ∷ F)) h.sections (good_after g F e) k)
    (λ F r bytes stamp parts answer reads is accepted. new_good g F r bytes stamp parts answer accepted reads.reads.of_table.rise
    (accepted_has_none (held_layout F r) stamp (has_count_conflict g F parts) (sym (ap (λ (a : Answer). is_candidate a.outcome) is) ∙ accepted))) E s life

pub same_count_same_section : SameCountSameSection
same_count_same_section settings g E s c layout t u life held among in_force same =
    let good : AreGood g E layout.sections = subst (May (λ (h : HeldLayout). AreGood g E h.sections)) held (held_are_good settings g E s life.life) in
    let one : Good g E (c, t) = of_each (Good g E) layout.sections (c, t) good among in
    let cleared = in_force_is_cleared g E c u (lives_are_ticked merged_answer (Says (OfMerger settings)) g E life.life) in_force in
    let k = one (omega (arith, cleared.0, same)) in
    subst (λ (o : Option SectionFields). SameAs o t) in_force k.1 same
