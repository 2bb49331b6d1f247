-- Sections that are held or in force came, and are whole sections; counts in force never fall.
use Rattle.pdc_life.proofs.Names.{[], ◌++◌, ◌<◌, ◌∷◌, ◌≡◌, ◌≤◌, AllByRecursion, ap, AreSound, arith, cleared_count, cond_both, Contains, count_for, CountsNeverFall, Entry, false≢true, flat_map, Given, HasCome, held_section, HeldHasCome, HeldIsSection, InForceHasCome, InForceIsSection, is_adoption_of, is_ready, IsSection, IsSound, IsTicked, KeepsCount, Layout, leb, List, ltb, max, None, Option, refl, rules, section_in_force, SectionFields, sections_at, Some, subst, sym, Tick, true, ℕ}
use Rattle.pdc_life.proofs.InForce.{adopted_is_ready, of_held}
use Rattle.pdc_life.proofs.Lists.{appended, both, each, May, may_each, of_each}
use Rattle.pdc_life.proofs.Steps.{at_layout, run_before, ticked_before}

-- ---- where they came from

one_more_came : (g : Given) (E : List Entry) (e : Entry) (c : ℕ) (s : SectionFields) → HasCome g E c s → HasCome g (e ∷ E) c s
one_more_came g E e c s h = record {
  later = e ∷ h.later;
  earlier = h.earlier;
  stream = h.stream;
  bytes = h.bytes;
  stamp = h.stamp;
  sections = h.sections;
  answer = h.answer;
  stands = ap (λ (es : List Entry). e ∷ es) h.stands;
  accepted = h.accepted;
  among = h.among;
  not_below = h.not_below;
}

-- a section that came, if it is not below the opening count
abbrev Came : Given → List Entry → ℕ → SectionFields → Type 0
Came g E c s = count_for c g.counts ≤ s.count → HasCome g E c s

all_came : (g : Given) (E : List Entry) (c : ℕ) → AllByRecursion (Came g E c) (flat_map (sections_at c) E)
all_came g [] c = tt
all_came g (e ∷ E) c =
    appended (Came g (e ∷ E) c) (sections_at c e) (flat_map (sections_at c) E)
    (at_layout (Came g (e ∷ E) c) c e (λ stream bytes stamp sections answer is accepted part among mine low. record {
      later = [];
      earlier = E;
      stream = stream;
      bytes = bytes;
      stamp = stamp;
      sections = sections;
      answer = answer;
      stands = ap (λ (x : Entry). x ∷ E) is;
      accepted = accepted;
      among = subst (λ n. Contains sections (n, part.1)) mine among;
      not_below = low;
    }))
    (each (Came g E c) (Came g (e ∷ E) c) (flat_map (sections_at c) E) (λ s h low. one_more_came g E e c s (h low)) (all_came g E c))

held_came : (g : Given) (E : List Entry) (c : ℕ) → May (HasCome g E c) (held_section g E c)
held_came g E c = of_held (Came g E c) (HasCome g E c) g E c (λ s low h. h low) (all_came g E c)

pub held_has_come : HeldHasCome
held_has_come g E c s h = subst (May (HasCome g E c)) h (held_came g E c)

in_force_came : (g : Given) (E : List Entry) (c : ℕ) → May (HasCome g E c) (section_in_force g E c)
in_force_came g [] c = tt
in_force_came g (e ∷ E) c =
    may_each (HasCome g E c) (HasCome g (e ∷ E) c) (section_in_force g (e ∷ E) c) (one_more_came g E e c)
    (cond_both (is_adoption_of c e) (held_section g E c) (section_in_force g E c) (May (HasCome g E c)) (λ adopted. held_came g E c)
    (λ quiet. in_force_came g E c))

pub in_force_has_come : InForceHasCome
in_force_has_come g E c s h = subst (May (HasCome g E c)) h (in_force_came g E c)

-- ---- they are whole

all_whole : (g : Given) (E : List Entry) (c : ℕ) → AreSound g E → AllByRecursion IsSection (flat_map (sections_at c) E)
all_whole g [] c run = tt
all_whole g (e ∷ E) c run =
    appended IsSection (sections_at c e) (flat_map (sections_at c) E)
    (at_layout IsSection c e (λ s bytes stamp sections answer is accepted part among mine.
    let at : IsSound g E s (Layout stamp sections) answer = (subst (λ (x : Entry). AreSound g (x ∷ E)) is run).0 in
    of_each (λ (p : ℕ × SectionFields). IsSection p.1) sections part at.sections among))
    (all_whole g E c (run_before g e E run))

held_whole : (g : Given) (E : List Entry) (c : ℕ) → AreSound g E → May IsSection (held_section g E c)
held_whole g E c run = of_held IsSection IsSection g E c (λ s low h. h) (all_whole g E c run)

pub in_force_whole : (g : Given) (E : List Entry) (c : ℕ) → AreSound g E → May IsSection (section_in_force g E c)
in_force_whole g [] c run = tt
in_force_whole g (e ∷ E) c run =
    let before : AreSound g E = run_before g e E run in
    cond_both (is_adoption_of c e) (held_section g E c) (section_in_force g E c) (May IsSection) (λ adopted. held_whole g E c before)
    (λ quiet. in_force_whole g E c before)

pub held_is_section : HeldIsSection
held_is_section g E c s run h = subst (May IsSection) h (held_whole g E c run.sound)

pub in_force_is_section : InForceIsSection
in_force_is_section g E c s run h = subst (May IsSection) h (in_force_whole g E c run.sound)

-- ---- counts in force

abbrev AtLeast : ℕ → Option SectionFields → Type 0
AtLeast count None = ⊥
AtLeast count (Some s) = count ≤ s.count

ready_above : (count cleared : ℕ) (held in_force : Option SectionFields) → is_ready held in_force cleared ≡ true → AtLeast count in_force → AtLeast count held
ready_above count cleared None in_force h k = absurd (false≢true h)
ready_above count cleared (Some s) None h k = absurd k
ready_above count cleared (Some s) (Some t) h k =
    let newer : ltb t.count s.count ≡ true = (both (ltb t.count s.count) (leb s.count cleared) h).0 in
    let less : t.count < s.count = search rules in
    omega (arith, k, less)

stays_at_least : (g : Given) (E F : List Entry) (c count : ℕ) → IsTicked g (F ++ E) → AtLeast count (section_in_force g E c) → AtLeast count (section_in_force g (F ++ E) c)
stays_at_least g E [] c count run k = k
stays_at_least g E (Tick now counts answer ∷ F) c count run k =
    cond_both (is_adoption_of c (Tick now counts answer)) (held_section g (F ++ E) c) (section_in_force g (F ++ E) c) (AtLeast count)
    (λ e. ready_above count (max (cleared_count g (F ++ E) c) (count_for c counts)) (held_section g (F ++ E) c) (section_in_force g (F ++ E) c)
    (adopted_is_ready g (F ++ E) now counts answer c run.0 e) (stays_at_least g E F c count run.1 k))
    (λ e. stays_at_least g E F c count run.1 k)
stays_at_least g E (e ∷ F) c count run k = stays_at_least g E F c count (ticked_before g e (F ++ E) run) k

keeps : (g : Given) (E : List Entry) (c count : ℕ) (o : Option SectionFields) → section_in_force g E c ≡ o → AtLeast count o → KeepsCount g E c count
keeps g E c count None e h = absurd h
keeps g E c count (Some s) e h = record { section = s; in_force = e; not_lower = h }

pub counts_never_fall : CountsNeverFall
counts_never_fall g E F c s run h =
    let itself : s.count ≤ s.count = omega arith in
    keeps g (F ++ E) c s.count (section_in_force g (F ++ E) c) refl (stays_at_least g E F c s.count run (subst (AtLeast s.count) (sym h) itself))
