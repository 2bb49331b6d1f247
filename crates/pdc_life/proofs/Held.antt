-- Held is the greatest count that came, with the first section of it.
use Rattle.pdc_life.proofs.Names.{[], ◌++◌, ◌<◌, ◌∙◌, ◌∷◌, ◌≡◌, ◌≤◌, AllByRecursion, Answer, ap, arith, Arrive, Bool, came_at, came_for, cases_lt, cond, count_for, Entry, eqb, false, false≢true, filter, first_greatest, flat_map, Given, greater, held_section, HeldIsGreatest, inl, inr, is_candidate, IsFirstGreatest, IsHeld, IsLife, Layout, leb, List, ltb, map, node_answer, NodeHoldsGreatest, None, OfNode, Option, refl, Refused, rules, Says, section_after, section_answer, SectionFields, sections_at, Settings, Some, StaleCount, subst, sym, true, ℕ}
use Rattle.pdc_life.proofs.Lists.{same_number}
use Rattle.pdc_life.proofs.Steps.{life_before}

all_lower : (s t : SectionFields) (newer older : List SectionFields) → s.count < t.count → AllByRecursion (λ (u : SectionFields). u.count ≤ s.count) newer → AllByRecursion (λ (u : SectionFields). u.count < s.count) older → AllByRecursion (λ (u : SectionFields). u.count < t.count) (newer ++ s ∷ older)
all_lower s t [] [] h a b = (h, tt)
all_lower s t [] (u ∷ older) h a b = (h, (omega (arith, h, b.0), (all_lower s t [] older h a b.1).1))
all_lower s t (u ∷ newer) older h a b = (omega (arith, h, a.0), all_lower s t newer older h a.1 b)

-- one more that is not greater
with_lower : (sections : List SectionFields) (held s : SectionFields) → s.count ≤ held.count → IsFirstGreatest sections held → IsFirstGreatest (s ∷ sections) held
with_lower sections held s l h = record {
  newer = s ∷ h.newer;
  older = h.older;
  stands = ap (λ ss. s ∷ ss) h.stands;
  not_greater = (l, h.not_greater);
  lower = h.lower;
}

held_after : (sections : List SectionFields) (held : Option SectionFields) (s : SectionFields) → IsHeld sections held → IsHeld (s ∷ sections) (greater held s)
held_after sections None s h = record { newer = []; older = []; stands = ap (λ ss. s ∷ ss) h; not_greater = tt; lower = tt }
held_after sections (Some held) s h = elim (cases_lt held.count s.count) [
  | inl l ↦ (let e : ltb held.count s.count ≡ true = search rules in
      rw e (record {
        newer = [];
        older = sections;
        stands = refl;
        not_greater = tt;
        lower = subst (λ (ss : List SectionFields). AllByRecursion (λ (u : SectionFields). u.count < s.count) ss) (sym h.stands) (all_lower held s h.newer h.older l h.not_greater h.lower);
      }))
  | inr g ↦ (let e : ltb held.count s.count ≡ false = search rules in rw e (with_lower sections held s g h))
]

first_is_greatest : (sections : List SectionFields) → IsHeld sections (first_greatest sections)
first_is_greatest [] = refl
first_is_greatest (s ∷ sections) = held_after sections (first_greatest sections) s (first_is_greatest sections)

pub held_is_greatest : HeldIsGreatest
held_is_greatest g E c = first_is_greatest (filter (λ (s : SectionFields). leb (count_for c g.counts) s.count) (flat_map (sections_at c) E))

-- ---- a node

not_above : (held s : SectionFields) → is_candidate (section_after (Some held) s) ≡ false → s.count ≤ held.count
not_above held s h = elim (cases_lt held.count s.count) [
  | inl l ↦ (let a : ltb s.count held.count ≡ false = search rules in
      let b : ltb held.count s.count ≡ true = search rules in
      absurd (false≢true (sym h ∙ rw (a, b) refl)))
  | inr m ↦ m
]

-- the sections that came, and what is held, after one more that was answered so
after_refused : (low : ℕ) (sections : List SectionFields) (held : Option SectionFields) (s : SectionFields) (b : Bool) → leb low s.count ≡ b →
    is_candidate (section_answer low held s) ≡ false → IsHeld sections held → IsHeld (cond b (s ∷ sections) sections) held
after_refused low sections held s false e k h = h
after_refused low sections None s true e k h =
    let up : ltb s.count low ≡ false = search rules in
    absurd (false≢true (sym k ∙ rw up refl))
after_refused low sections (Some held) s true e k h =
    let up : ltb s.count low ≡ false = search rules in
    with_lower sections held s (not_above held s (sym (ap (λ (b : Bool). is_candidate (cond b (Refused StaleCount) (section_after (Some held) s))) up) ∙ k)) h

after_accepted : (low : ℕ) (sections : List SectionFields) (ss : List SectionFields) (s : SectionFields) (b : Bool) → IsHeld sections (first_greatest ss) →
    IsHeld (cond b (s ∷ sections) sections) (first_greatest (cond b (s ∷ ss) ss))
after_accepted low sections ss s true h = held_after sections (first_greatest ss) s h
after_accepted low sections ss s false h = h

abbrev passes : ℕ → SectionFields → Bool
passes low s = leb low s.count

-- one configuration more, for the column or for another one
after_one : (low d : ℕ) (s : SectionFields) (rest ss : List SectionFields) (mine accepted : Bool) → (mine ≡ true → accepted ≡ is_candidate (section_answer low (first_greatest (filter (passes low) ss)) s))
    → IsHeld (filter (passes low) rest) (first_greatest (filter (passes low) ss))
    → IsHeld (filter (passes low) (map (λ (part : ℕ × SectionFields). part.1) (cond mine ((d, s) ∷ []) []) ++ rest))
    (first_greatest (filter (passes low) (cond accepted (map (λ (part : ℕ × SectionFields). part.1) (cond mine ((d, s) ∷ []) [])) [] ++ ss)))
after_one low d s rest ss false true k h = h
after_one low d s rest ss false false k h = h
after_one low d s rest ss true true k h = after_accepted low (filter (passes low) rest) (filter (passes low) ss) s (leb low s.count) h
after_one low d s rest ss true false k h =
    after_refused low (filter (passes low) rest) (first_greatest (filter (passes low) ss)) s (leb low s.count) refl (sym (k refl)) h

holds_greatest : (settings : Settings) (g : Given) (E : List Entry) (c : ℕ) → IsLife node_answer (Says (OfNode settings)) g E → IsHeld (came_for g E c) (held_section g E c)
holds_greatest settings g [] c life = refl
holds_greatest settings g (Arrive p bytes (Layout None ((d, s) ∷ [])) answer ∷ E) c life =
    after_one (count_for c g.counts) d s (flat_map (came_at c) E) (flat_map (sections_at c) E) (eqb d c) (is_candidate answer.outcome)
    (λ mine. ap (λ (a : Answer). is_candidate a.outcome) life.1
    ∙ ap (λ q. is_candidate (section_answer (count_for q g.counts) (held_section g E q) s)) (sym life.0.reads.0 ∙ same_number d c mine))
    (holds_greatest settings g E c life.2)
holds_greatest settings g (Arrive p bytes (Layout stamp sections) answer ∷ E) c life = absurd life.0.reads
holds_greatest settings g (e ∷ E) c life = holds_greatest settings g E c (life_before node_answer (Says (OfNode settings)) g e E life)

pub node_holds_greatest : NodeHoldsGreatest
node_holds_greatest settings g E c life = holds_greatest settings g E c life.life
