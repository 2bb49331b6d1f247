-- The test of settings says that they agree.
use Rattle.std.proofs.Common.{[], ◌&&◌, ◌==◌, ◌∷◌, ◌≡◌, ◌≢◌, Bool, List, not, refl, sym, true, ℕ}
use Rattle.pdc_world.proofs.Names.{A, AllByRecursion, and_from, and_parts, are_alike, are_free, are_sources, are_three, B, do_agree, eq-eqb, eqb-false, eqb-true, ids_of, is_free, is_same, is_taken_for, M, MergerSettings, ne_eqb, not-true, not_from_false, Output, output_of, Pmu, Settings, SettingsAgree, sources_of, tail_of, time_bases_of, Who, World}

-- ---- conjunctions

parts : (p q r s t u : Bool) → (p && q && r && s && t && u) ≡ true → (p ≡ true) × (q ≡ true) × (r ≡ true) × (s ≡ true) × (t ≡ true) × (u ≡ true)
parts true true true true true true e = (refl, refl, refl, refl, refl, refl)
parts p q r s t u e = cc

both : {p q : Bool} → p ≡ true → q ≡ true → (p && q) ≡ true
both {p = p} {q = q} a b = and_from p q a b

-- ---- the same PMUs

record Alike (ps qs : List Pmu) : Type 0 where
  pub streams : ids_of ps ≡ ids_of qs
  pub time_bases : time_bases_of ps ≡ time_bases_of qs
  pub sources : sources_of ps ≡ sources_of qs

alike_from : (ps qs : List Pmu) → are_alike ps qs ≡ true → Alike ps qs
alike_from [] [] e = record { streams = refl; time_bases = refl; sources = refl }
alike_from (p ∷ ps) (q ∷ qs) e =
    let same = parts true true (p.stream.value == q.stream.value) (p.time_base == q.time_base) (p.source == q.source) (are_alike ps qs) e in
    let more : Alike ps qs = alike_from ps qs same.5 in
    record {
      streams = λ i. eqb-true p.stream.value q.stream.value same.2 i ∷ more.streams i;
      time_bases = λ i. eqb-true p.time_base q.time_base same.3 i ∷ more.time_bases i;
      sources = λ i. eqb-true p.source q.source same.4 i ∷ more.sources i;
    }
alike_from ps qs e = cc

alike_to : (ps qs : List Pmu) → ids_of ps ≡ ids_of qs → time_bases_of ps ≡ time_bases_of qs → sources_of ps ≡ sources_of qs → are_alike ps qs ≡ true
alike_to [] [] streams time_bases sources = refl
alike_to (p ∷ ps) (q ∷ qs) streams time_bases sources =
    both (both (both (eq-eqb p.stream.value q.stream.value cc) (eq-eqb p.time_base q.time_base cc)) (eq-eqb p.source q.source cc))
    (alike_to ps qs (tail_of streams) (tail_of time_bases) (tail_of sources))
alike_to ps qs streams time_bases sources = cc

sources_from : (ids : List ℕ) (ps : List Pmu) → are_sources ids ps ≡ true → ids ≡ sources_of ps
sources_from [] [] e = refl
sources_from (id ∷ ids) (p ∷ ps) e =
    let same = and_parts (id == p.source) (are_sources ids ps) e in
    λ i. eqb-true id p.source same.0 i ∷ sources_from ids ps same.1 i
sources_from ids ps e = cc

sources_to : (ids : List ℕ) (ps : List Pmu) → ids ≡ sources_of ps → are_sources ids ps ≡ true
sources_to [] [] e = refl
sources_to (id ∷ ids) (p ∷ ps) e = both (eq-eqb id p.source cc) (sources_to ids ps (tail_of e))
sources_to ids ps e = cc

-- ---- ids

differ_from : (a b : ℕ) → not (a == b) ≡ true → a ≡ b → ⊥
differ_from a b e = eqb-false a b (not-true (a == b) e)

differ_to : (a b : ℕ) → (a ≡ b → ⊥) → not (a == b) ≡ true
differ_to a b e = not_from_false (a == b) (ne_eqb a b e)

free_from : (id : ℕ) (ps : List Pmu) → is_free id ps ≡ true → AllByRecursion (λ (pmu : Pmu). pmu.stream.value ≢ id) ps
free_from id [] e = tt
free_from id (p ∷ ps) e =
    let same = and_parts (not (p.stream.value == id)) (is_free id ps) e in
    (differ_from p.stream.value id same.0, free_from id ps same.1)

free_to : (id : ℕ) (ps : List Pmu) → AllByRecursion (λ (pmu : Pmu). pmu.stream.value ≢ id) ps → is_free id ps ≡ true
free_to id [] all = refl
free_to id (p ∷ ps) all = both (differ_to p.stream.value id all.0) (free_to id ps all.1)

record Three (a b m : Output) : Type 0 where
  pub b_rate : b.rate ≡ a.rate
  pub m_rate : m.rate ≡ a.rate
  pub a_b : a.id.value ≡ b.id.value → ⊥
  pub a_m : a.id.value ≡ m.id.value → ⊥
  pub b_m : b.id.value ≡ m.id.value → ⊥

three_from : (a b m : Output) → are_three a b m ≡ true → Three a b m
three_from a b m e =
    let same = parts true (b.rate == a.rate) (m.rate == a.rate) (not (a.id.value == b.id.value))
    (not (a.id.value == m.id.value)) (not (b.id.value == m.id.value)) e in
    record {
      b_rate = eqb-true b.rate a.rate same.1;
      m_rate = eqb-true m.rate a.rate same.2;
      a_b = differ_from a.id.value b.id.value same.3;
      a_m = differ_from a.id.value m.id.value same.4;
      b_m = differ_from b.id.value m.id.value same.5;
    }

three_to : (a b m : Output) → Three a b m → are_three a b m ≡ true
three_to a b m t =
    both (both (both (both (eq-eqb b.rate a.rate t.b_rate) (eq-eqb m.rate a.rate t.m_rate)) (differ_to a.id.value b.id.value t.a_b))
    (differ_to a.id.value m.id.value t.a_m))
    (differ_to b.id.value m.id.value t.b_m)

own_alone : (W : World) → Three W.a.settings.output W.b.settings.output W.m.settings.output → (v w : Who) → (output_of W v).id.value ≡ (output_of W w).id.value → is_same v w ≡ true
own_alone W t A B e = absurd (t.a_b e)
own_alone W t A M e = absurd (t.a_m e)
own_alone W t B A e = absurd (t.a_b (sym e))
own_alone W t B M e = absurd (t.b_m e)
own_alone W t M A e = absurd (t.a_m (sym e))
own_alone W t M B e = absurd (t.b_m (sym e))
own_alone W t v w e = refl

one_rate : (W : World) → Three W.a.settings.output W.b.settings.output W.m.settings.output → (who : Who) → (output_of W who).rate ≡ W.a.settings.output.rate
one_rate W t A = refl
one_rate W t B = t.b_rate
one_rate W t M = t.m_rate

none_free : (W : World) → are_free W.a.settings.output W.b.settings.output W.m.settings.output W.a.settings.pmus.items ≡ true → (who : Who)
    → AllByRecursion (λ (pmu : Pmu). pmu.stream.value ≢ (output_of W who).id.value) W.a.settings.pmus.items
none_free W e who =
    let pmus : List Pmu = W.a.settings.pmus.items in
    let free = parts true true true (is_free W.a.settings.output.id.value pmus) (is_free W.b.settings.output.id.value pmus) (is_free W.m.settings.output.id.value pmus) e in
    free_from (output_of W who).id.value pmus
    (elim who as (λ (w : Who). is_free (output_of W w).id.value pmus ≡ true) [ A ↦ free.3 | B ↦ free.4 | M ↦ free.5 ])

-- ---- both directions

pub agree_from : (W : World) → do_agree W.a.settings W.b.settings W.m.settings ≡ true → SettingsAgree W
agree_from W e =
    let a : Settings = W.a.settings in
    let b : Settings = W.b.settings in
    let m : MergerSettings = W.m.settings in
    let all = parts (are_alike b.pmus.items a.pmus.items) (are_sources m.sources.items a.pmus.items) (is_taken_for m.first a.output)
    (is_taken_for m.second b.output)
    (are_three a.output b.output m.output) (are_free a.output b.output m.output a.pmus.items) e in
    let alike : Alike b.pmus.items a.pmus.items = alike_from b.pmus.items a.pmus.items all.0 in
    let first = and_parts (m.first.id.value == a.output.id.value) (m.first.time_base == a.output.time_base) all.2 in
    let second = and_parts (m.second.id.value == b.output.id.value) (m.second.time_base == b.output.time_base) all.3 in
    let three : Three a.output b.output m.output = three_from a.output b.output m.output all.4 in
    record {
      streams = alike.streams;
      time_bases = alike.time_bases;
      sources = alike.sources;
      merged = sources_from m.sources.items a.pmus.items all.1;
      first_id = eqb-true m.first.id.value a.output.id.value first.0;
      first_time_base = eqb-true m.first.time_base a.output.time_base first.1;
      second_id = eqb-true m.second.id.value b.output.id.value second.0;
      second_time_base = eqb-true m.second.time_base b.output.time_base second.1;
      rate = one_rate W three;
      own_ids = own_alone W three;
      no_pmu = none_free W all.5;
    }

three_of : (W : World) → SettingsAgree W → Three W.a.settings.output W.b.settings.output W.m.settings.output
three_of W agree = record {
  b_rate = agree.rate B;
  m_rate = agree.rate M;
  a_b = λ e. let same : is_same A B ≡ true = agree.own_ids A B e in cc;
  a_m = λ e. let same : is_same A M ≡ true = agree.own_ids A M e in cc;
  b_m = λ e. let same : is_same B M ≡ true = agree.own_ids B M e in cc;
}

pub agree_to : (W : World) → SettingsAgree W → do_agree W.a.settings W.b.settings W.m.settings ≡ true
agree_to W agree =
    let a : Settings = W.a.settings in
    let b : Settings = W.b.settings in
    let m : MergerSettings = W.m.settings in
    both (both (both (both (both (alike_to b.pmus.items a.pmus.items agree.streams agree.time_bases agree.sources)
    (sources_to m.sources.items a.pmus.items agree.merged))
    (both (eq-eqb m.first.id.value a.output.id.value agree.first_id) (eq-eqb m.first.time_base a.output.time_base agree.first_time_base)))
    (both (eq-eqb m.second.id.value b.output.id.value agree.second_id) (eq-eqb m.second.time_base b.output.time_base agree.second_time_base)))
    (three_to a.output b.output m.output (three_of W agree)))
    (both (both (free_to a.output.id.value a.pmus.items (agree.no_pmu A)) (free_to b.output.id.value a.pmus.items (agree.no_pmu B)))
    (free_to m.output.id.value a.pmus.items (agree.no_pmu M)))
