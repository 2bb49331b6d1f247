-- The merger stands for the life with one step more.
use Rattle.std.proofs.Common.{◌≡◌, ℕ, zero, suc, ◌+◌, ◌<◌, Bool, true, false, cond, eqb, List, [], ◌∷◌, length, map, refl, sym, ◌∙◌, ap, subst, arith, Some}
use Rattle.std.specs.Prelude.{option_map}
use Rattle.std.specs.List.{AllByRecursion}
use Rattle.pdc_cfg.specs.Section.{SectionFields}
use Rattle.pdc_row.specs.Rising.{Rises}
use Rattle.pdc_life.specs.declared.merging.MergerSettings.{MergerSettings}
use Rattle.pdc_life.specs.Arrival.{Arrival, Layout, Stamp}
use Rattle.pdc_life.specs.CoreKind.{given_of, IsLifeOf, OfMerger, Says}
use Rattle.pdc_life.specs.Given.{Given}
use Rattle.pdc_life.specs.Life.{Answer, Arrive, Entry, is_candidate}
use Rattle.pdc_life.specs.Merger.{HeldLayout, held_layout, merged_answer}
use Rattle.pdc_life.specs.Laws.{LivesAreRuns}
use Rattle.pdc_life.specs.Run.{IsRun}
use Rattle.pdc_align.specs.Align.{HasSizes, KeepsSizes, State}
use Rattle.pdc_align.specs.Align as align
use Rattle.pdc_arrival.specs.declared.counts.Counts.{Counts}
use Rattle.pdc_arrival.specs.Counts.{counts_after}
use Rattle.pdc_merge.specs.Cells.{layouts_in_force}
use Rattle.pdc_merge.specs.Held.{AreAllInPlace, AreInPlace, LayoutView, LayoutsView, MayBeInPlace, held_section_of, layout_at, layout_of, layouts_of, with_layout}
use Rattle.pdc_merge.specs.Merger.{IsPlaced, IsReady, IsWhole, MergerView, StandsFor}
use Rattle.pdc_merge.specs.declared.held_layout.HeldSection.{HeldSection}
use Rattle.pdc_merge.specs.declared.in_force.InForce.{InForce}

abbrev Parts : Type 0
Parts = List (ℕ × SectionFields)

-- ---- the start

pub begins : (settings : MergerSettings) (start floor : ℕ) (counts : List ℕ) (opening : ℕ) (g : Given) (a : State) (l : LayoutsView) (k : Counts) (m : List ℕ) (d last : ℕ)
    → g ≡ given_of (OfMerger settings) start floor counts opening → align.StandsFor g [] a → l ≡ layouts_of [] → k ≡ counts_after []
    → StandsFor (given_of (OfMerger settings) start floor counts opening) [] (record { settings = settings; start = start; state = a; layouts = l; counts = k; memory = m; disagreements = d; popped = last })
begins settings start floor counts opening g a l k m d last e aligned held counted = record {
  life = record { given = refl; life = tt };
  same_start = refl;
  aligned = subst (λ (h : Given). align.StandsFor h [] a) e aligned;
  held = held;
  counted = counted;
}

-- ---- what arrives

pub same_place : (columns more : ℕ) (s : ℕ) (arrival : Arrival) → columns ≡ more → IsPlaced columns s arrival → IsPlaced more s arrival
same_place columns more s arrival e h = subst (λ n. IsPlaced n s arrival) e h

pub is_ready : (columns : ℕ) (a : State) (held : LayoutsView) (k : InForce) → IsWhole columns a held k → IsReady a held
is_ready columns a held k whole = record {
  each = whole.sizes.each_column ∙ sym whole.sizes.column_count;
  lanes = whole.sizes.lane_count;
  in_place = subst (λ n. AreAllInPlace n held) (sym whole.sizes.each_column) whole.in_place;
}

pub is_whole : (columns : ℕ) (a b : State) (old new : LayoutsView) (k l : InForce) → KeepsSizes a b → AreAllInPlace (length a.columns) new → l ≡ layouts_in_force b new
    → IsWhole columns a old k → IsWhole columns b new l
is_whole columns a b old new k l keeps place known whole = record {
  sizes = record {
    column_count = keeps.columns ∙ whole.sizes.column_count;
    lane_count = keeps.lanes ∙ whole.sizes.lane_count;
    each_column = keeps.each ∙ whole.sizes.each_column;
  };
  in_place = subst (λ n. AreAllInPlace n new) whole.sizes.each_column place;
  known = known;
}

-- there are such columns after a call that keeps the sizes
pub still_placed : (columns : ℕ) (a b : State) (held : LayoutsView) (k : InForce) → KeepsSizes a b → IsWhole columns a held k → AreAllInPlace (length b.columns) held
still_placed columns a b held k keeps whole = subst (λ n. AreAllInPlace n held) (sym (keeps.each ∙ whole.sizes.each_column)) whole.in_place

-- ---- held layouts

-- what is kept of a node is what is held of it
pub at_stream : (E : List Entry) (s : ℕ) → s < 2 → layout_at (layouts_of E) s ≡ option_map layout_of (held_layout E s)
at_stream E zero l = refl
at_stream E (suc zero) l = refl
at_stream E (suc (suc s)) l = absurd (omega (arith, l))

abbrev held_if : List Entry → (s : ℕ) → (first second : Bool) → HeldLayout → LayoutsView
held_if E s first second new = record {
  first = option_map layout_of (cond first (Some new) (held_layout E 0));
  second = option_map layout_of (cond second (Some new) (held_layout E 1));
}

pub held_new : (E : List Entry) (s : ℕ) (bytes : List ℕ) (stamp : Stamp) (parts : Parts) (answer : Answer) → s < 2 → is_candidate answer.outcome ≡ true
    → with_layout (layouts_of E) s (layout_of (record { stamp = stamp; sections = parts })) ≡ layouts_of (Arrive s bytes (Layout (Some stamp) parts) answer ∷ E)
held_new E zero bytes stamp parts answer l e = ap (λ (b : Bool). held_if E 0 b false (record { stamp = stamp; sections = parts })) (sym e)
held_new E (suc zero) bytes stamp parts answer l e = ap (λ (b : Bool). held_if E 1 false b (record { stamp = stamp; sections = parts })) (sym e)
held_new E (suc (suc s)) bytes stamp parts answer l e = absurd (omega (arith, l))

pub held_old : (E : List Entry) (s : ℕ) (bytes : List ℕ) (stamp : Stamp) (parts : Parts) (answer : Answer) → s < 2 → is_candidate answer.outcome ≡ false
    → layouts_of E ≡ layouts_of (Arrive s bytes (Layout (Some stamp) parts) answer ∷ E)
held_old E zero bytes stamp parts answer l e = ap (λ (b : Bool). held_if E 0 b false (record { stamp = stamp; sections = parts })) (sym e)
held_old E (suc zero) bytes stamp parts answer l e = ap (λ (b : Bool). held_if E 1 false b (record { stamp = stamp; sections = parts })) (sym e)
held_old E (suc (suc s)) bytes stamp parts answer l e = absurd (omega (arith, l))

-- what is kept of new sections stands in place
kept_exist : (n : ℕ) (parts : Parts) → AllByRecursion (λ (part : ℕ × SectionFields). part.0 < n) parts → AllByRecursion (λ (s : HeldSection). s.column < n) (map held_section_of parts)
kept_exist n [] e = tt
kept_exist n (part ∷ parts) e = (e.0, kept_exist n parts e.1)

kept_columns : (parts : Parts) → map (λ (s : HeldSection). s.column + 1) (map held_section_of parts) ≡ map (λ (part : ℕ × SectionFields). part.0 + 1) parts
kept_columns [] = refl
kept_columns (part ∷ parts) = ap (λ (ns : List ℕ). (part.0 + 1) ∷ ns) (kept_columns parts)

pub kept_in_place : (n : ℕ) (parts : Parts) → Rises 0 (map (λ (part : ℕ × SectionFields). part.0 + 1) parts) → AllByRecursion (λ (part : ℕ × SectionFields). part.0 < n) parts
    → AreInPlace n (map held_section_of parts)
kept_in_place n parts r e = record { rise = subst (Rises 0) (sym (kept_columns parts)) r; exist = kept_exist n parts e }

two_in_place : (n : ℕ) (held : LayoutsView) (layout : LayoutView) (b : Bool) → AreAllInPlace n held → AreInPlace n layout.sections
    → AreAllInPlace n (cond b (record held { first = Some layout }) (record held { second = Some layout }))
two_in_place n held layout true all place = record { first = place; second = all.second }
two_in_place n held layout false all place = record { first = all.first; second = place }

pub held_in_place : (n : ℕ) (held : LayoutsView) (s : ℕ) (layout : LayoutView) → AreAllInPlace n held → AreInPlace n layout.sections → AreAllInPlace n (with_layout held s layout)
held_in_place n held s layout all place = two_in_place n held layout (eqb s 0) all place

at_in_place : (n : ℕ) (held : LayoutsView) (b : Bool) → AreAllInPlace n held → MayBeInPlace n (cond b held.first held.second)
at_in_place n held true all = all.first
at_in_place n held false all = all.second

pub one_in_place : (n : ℕ) (held : LayoutsView) (s : ℕ) (layout : LayoutView) → AreAllInPlace n held → layout_at held s ≡ Some layout → AreInPlace n layout.sections
one_in_place n held s layout all e = subst (MayBeInPlace n) e (at_in_place n held (eqb s 0) all)

-- ---- arrivals

module _ (runs : LivesAreRuns) where
  life_more : (m : MergerView) (g : Given) (E : List Entry) (s : ℕ) (bytes : List ℕ) (arrival : Arrival) → Says (OfMerger m.settings) s bytes arrival → StandsFor g E m
      → IsLifeOf (OfMerger m.settings) g (Arrive s bytes arrival (merged_answer g E s arrival) ∷ E)
  life_more m g E s bytes arrival reads stands = record { given = stands.life.given; life = (reads, refl, stands.life.life) }

  pub arrives : (m : MergerView) (g : Given) (E : List Entry) (s : ℕ) (bytes : List ℕ) (arrival : Arrival) (b : State) (l : LayoutsView) (k : Counts) (memory : List ℕ) (d last : ℕ)
      → Says (OfMerger m.settings) s bytes arrival → StandsFor g E m
      → (IsRun g (Arrive s bytes arrival (merged_answer g E s arrival) ∷ E) → align.StandsFor g (Arrive s bytes arrival (merged_answer g E s arrival) ∷ E) b)
      → l ≡ layouts_of (Arrive s bytes arrival (merged_answer g E s arrival) ∷ E)
      → (m.counts ≡ counts_after E → k ≡ counts_after (Arrive s bytes arrival (merged_answer g E s arrival) ∷ E))
      → StandsFor g (Arrive s bytes arrival (merged_answer g E s arrival) ∷ E) (record m { state = b; layouts = l; counts = k; memory = memory; disagreements = d; popped = last })
  arrives m g E s bytes arrival b l k memory d last reads stands step held counts = record {
    life = life_more m g E s bytes arrival reads stands;
    same_start = stands.same_start;
    aligned = step (runs (OfMerger m.settings) g (Arrive s bytes arrival (merged_answer g E s arrival) ∷ E) (life_more m g E s bytes arrival reads stands));
    held = held;
    counted = counts stands.counted;
  }
