-- What an alignment keeps follows a tick.
use Rattle.std.proofs.Common.{◌≡◌, ℕ, ◌+◌, ◌<◌, ◌≤◌, Bool, true, false, not, ◌&&◌, ◌||◌, cond, eqb, ltb, List, [], ◌∷◌, filter, length, map, max, refl, sym, ◌∙◌, ap, subst, arith, zero, suc, inl, inr, Option, None}
use Rattle.std.specs.List.{list_any, range_with_len}
use Rattle.std.proofs.lemmas.Bool.{cases_eq, eq-eqb, lt-ltb, ne_eqb}
use Rattle.std.proofs.lemmas.List.{ext_get_or, length-map}
use Rattle.std.proofs.lemmas.List.FromFn.{get_or-map-range_with_len, length-map-range_with_len}
use Rattle.std.proofs.lemmas.Simd.{map-map}
use Rattle.pdc_arrival.specs.pdc_cfg.Section.{SectionFields}
use Rattle.pdc_table.specs.pdc_open_row.Row.{row_of}
use Rattle.pdc_table.specs.Steps.{after_tick, closed_by, closing_of}
use Rattle.pdc_arrival.specs.pdc_life.Answer.{has_change, is_ready, ready_columns, tick_answer}
use Rattle.pdc_arrival.specs.pdc_life.Given.{Given, columns_of, count_for}
use Rattle.pdc_arrival.specs.pdc_life.Life.{Entry, Tick, TickAnswer, changes, cleared_count, held_section, is_adoption, section_in_force}
use Rattle.pdc_arrival.specs.pdc_life.Row.{rows_of}
use Rattle.pdc_align.specs.State.{after_adoptions, content_of, row_layout_of, rule_of, shape_in}
use Rattle.pdc_align.specs.Align.{State, ColumnState, StandsFor, align_of, column_state_of, new_change, ticked_of}
use Rattle.pdc_align.specs.Calls.{after_adopting, after_closing, after_tick_of, change_after, clear_to, cleared_from, is_ready_in, no_column, ready_at, ready_from, row_layout_in, told_at, with_adoption}

-- ---- columns by their numbers

abbrev cleared_of : Given → List Entry → List ℕ → (c : ℕ) → ColumnState
cleared_of g E counts c = clear_to (count_for c counts) (column_state_of g E c)

cleared_range : (g : Given) (E : List Entry) (counts : List ℕ) (start n : ℕ)
    → cleared_from start counts (map (column_state_of g E) (range_with_len start n)) ≡ map (cleared_of g E counts) (range_with_len start n)
cleared_range g E counts start zero = refl
cleared_range g E counts start (suc n) = ap (λ cs. cleared_of g E counts start ∷ cs) (cleared_range g E counts (start + 1) n)

ready_range : (f : ℕ → ColumnState) (start n : ℕ) → ready_from start (map f (range_with_len start n)) ≡ filter (λ c. is_ready_in (f c)) (range_with_len start n)
ready_range f start zero = refl
ready_range f start (suc n) = ap (λ cs. cond (is_ready_in (f start)) (start ∷ cs) cs) (ready_range f (start + 1) n)

ready_same : (g : Given) (E : List Entry) (counts : List ℕ) → ready_at (align_of g E) counts ≡ ready_columns g E counts
ready_same g E counts =
    ap (ready_from 0) (cleared_range g E counts 0 g.columns) ∙ ready_range (cleared_of g E counts) 0 g.columns

-- ---- which are adopted

not_first : (f : ℕ → Bool) (k start : ℕ) (ds : List ℕ) (b : Bool) → k < start → list_any (λ d. eqb d k) ds ≡ false → list_any (λ d. eqb d k) (cond b (start ∷ ds) ds) ≡ false
not_first f k start ds true l h = ap (λ b. b || list_any (λ d. eqb d k) ds) (ne_eqb start k (λ q. omega (arith, l, q))) ∙ h
not_first f k start ds false l h = h

not_listed : (f : ℕ → Bool) (k start n : ℕ) → k < start → list_any (λ d. eqb d k) (filter f (range_with_len start n)) ≡ false
not_listed f k start zero l = refl
not_listed f k start (suc n) l =
    not_first f k start (filter f (range_with_len (start + 1) n)) (f start) l (not_listed f k (start + 1) n (omega (arith, l)))

first_listed : (k : ℕ) (ds : List ℕ) (b : Bool) → list_any (λ d. eqb d k) ds ≡ false → list_any (λ d. eqb d k) (cond b (k ∷ ds) ds) ≡ b
first_listed k ds true h = ap (λ b. b || list_any (λ d. eqb d k) ds) (eq-eqb k k refl)
first_listed k ds false h = h

other_first : (k start : ℕ) (ds : List ℕ) (b : Bool) → (start ≡ k → ⊥) → list_any (λ d. eqb d k) (cond b (start ∷ ds) ds) ≡ list_any (λ d. eqb d k) ds
other_first k start ds true n = ap (λ b. b || list_any (λ d. eqb d k) ds) (ne_eqb start k n)
other_first k start ds false n = refl

-- a number in the range is listed where it passes
listed : (f : ℕ → Bool) (k start n : ℕ) → start ≤ k → k < start + n → list_any (λ d. eqb d k) (filter f (range_with_len start n)) ≡ f k
listed f k start zero l h = absurd (omega (arith, l, h))
listed f k start (suc n) l h =
    let rest : List ℕ = filter f (range_with_len (start + 1) n) in
    elim (cases_eq start k) [
      | inl e ↦ subst (λ j. list_any (λ d. eqb d k) (cond (f j) (j ∷ rest) rest) ≡ f k) (sym e)
          (first_listed k rest (f k) (not_listed f k (start + 1) n (omega (arith, e))))
      | inr d ↦ other_first k start rest (f start) d ∙ listed f k (start + 1) n (omega (arith, l, d)) (omega (arith, h))
    ]

-- ---- what is kept after a tick that adopts these

abbrev state_after : Given → List Entry → (counts : List ℕ) → (adopted : List ℕ) → (c : ℕ) → ColumnState
state_after g E counts adopted c = record {
  opening = count_for c g.counts;
  cleared = max (cleared_count g E c) (count_for c counts);
  held = held_section g E c;
  in_force = cond (list_any (λ d. eqb d c) adopted) (held_section g E c) (section_in_force g E c);
}

abbrev kept_after : Given → List Entry → (now : ℕ) → (counts : List ℕ) → (change : ℕ) → (adopted : List ℕ) → State
kept_after g E now counts change adopted = record {
  wait = g.wait;
  wait_kind = g.wait_kind;
  ahead = g.ahead;
  start = g.start;
  current = now;
  change = change;
  columns = map (state_after g E counts adopted) (columns_of g);
  content = after_adoptions (after_tick (content_of g E) (rule_of g.wait_kind g.wait now) (row_layout_of g E)) adopted;
}

layout_is : (g : Given) (E : List Entry) → row_layout_in (align_of g E) ≡ row_layout_of g E
layout_is g E =
    ap (λ shapes. record { start = g.start; change = changes E; shapes = shapes })
    (map-map (λ (column : ColumnState). shape_in column.in_force) (column_state_of g E) (columns_of g))

-- no column is adopted
closing_only : (g : Given) (E : List Entry) (now : ℕ) (counts : List ℕ) → after_closing (align_of g E) now counts ≡ kept_after g E now counts (changes E) []
closing_only g E now counts =
    ap (λ layout. record (after_closing (align_of g E) now counts) { content = after_tick (content_of g E) (rule_of g.wait_kind g.wait now) layout }) (layout_is g E)
    ∙ ap (λ columns. record (kept_after g E now counts (changes E) []) { columns = columns }) (cleared_range g E counts 0 g.columns)

abbrev column_with : (opening cleared : ℕ) → (held in_force : Option SectionFields) → ColumnState
column_with opening cleared held in_force = record { opening = opening; cleared = cleared; held = held; in_force = in_force }

adopted_column : (opening cleared : ℕ) (held in_force : Option SectionFields) (b is_listed : Bool) → is_listed ≡ b
    → cond b (column_with opening cleared held held) (column_with opening cleared held in_force) ≡ column_with opening cleared held (cond is_listed held in_force)
adopted_column opening cleared held in_force true is_listed e = ap (λ c. column_with opening cleared held (cond c held in_force)) (sym e)
adopted_column opening cleared held in_force false is_listed e = ap (λ c. column_with opening cleared held (cond c held in_force)) (sym e)

adopted_columns : (g : Given) (E : List Entry) (counts : List ℕ)
    → map with_adoption (map (cleared_of g E counts) (columns_of g)) ≡ map (state_after g E counts (ready_columns g E counts)) (columns_of g)
adopted_columns g E counts =
    let before : List ColumnState = map (λ c. with_adoption (cleared_of g E counts c)) (columns_of g) in
    let after : List ColumnState = map (state_after g E counts (ready_columns g E counts)) (columns_of g) in
    let m : length before ≡ g.columns = length-map-range_with_len (λ c. with_adoption (cleared_of g E counts c)) 0 g.columns in
    let m' : length after ≡ g.columns = length-map-range_with_len (state_after g E counts (ready_columns g E counts)) 0 g.columns in
    map-map with_adoption (cleared_of g E counts) (columns_of g)
    ∙ ext_get_or no_column before after (m ∙ sym m')
    (λ c l. get_or-map-range_with_len (λ d. with_adoption (cleared_of g E counts d)) 0 g.columns c c no_column (omega (arith, l, m)) (omega arith)
    ∙ adopted_column (count_for c g.counts) (max (cleared_count g E c) (count_for c counts)) (held_section g E c) (section_in_force g E c)
    (is_ready (held_section g E c) (section_in_force g E c) (max (cleared_count g E c) (count_for c counts)))
    (list_any (λ d. eqb d c) (ready_columns g E counts))
    (listed (λ d. is_ready (held_section g E d) (section_in_force g E d) (max (cleared_count g E d) (count_for d counts))) c 0 g.columns (omega arith) (omega (arith, l, m)))
    ∙ sym (get_or-map-range_with_len (state_after g E counts (ready_columns g E counts)) 0 g.columns c c no_column (omega (arith, l, m)) (omega arith)))

adopting_too : (g : Given) (E : List Entry) (now : ℕ) (counts : List ℕ)
    → after_adopting (after_closing (align_of g E) now counts) (ready_at (align_of g E) counts)
    ≡ kept_after g E now counts (change_after (changes E) (ready_columns g E counts)) (ready_columns g E counts)
adopting_too g E now counts =
    ap (after_adopting (after_closing (align_of g E) now counts)) (ready_same g E counts)
    ∙ ap (λ a. after_adopting a (ready_columns g E counts))
    (ap (λ layout. record (after_closing (align_of g E) now counts) { content = after_tick (content_of g E) (rule_of g.wait_kind g.wait now) layout }) (layout_is g E)
    ∙ ap (λ columns. record (kept_after g E now counts (changes E) []) { columns = columns }) (cleared_range g E counts 0 g.columns))
    ∙ ap (λ columns. record (kept_after g E now counts (change_after (changes E) (ready_columns g E counts)) (ready_columns g E counts)) { columns = columns })
    (adopted_columns g E counts)

if_change : (g : Given) (E : List Entry) (now : ℕ) (counts : List ℕ) (b : Bool)
    → cond b (after_adopting (after_closing (align_of g E) now counts) (ready_at (align_of g E) counts)) (after_closing (align_of g E) now counts)
    ≡ kept_after g E now counts (change_after (changes E) (cond b (ready_columns g E counts) [])) (cond b (ready_columns g E counts) [])
if_change g E now counts true = adopting_too g E now counts
if_change g E now counts false = closing_only g E now counts

changes_after : (g : Given) (E : List Entry) (now : ℕ) (counts : List ℕ) (answer : TickAnswer) (adopted : List ℕ) → answer.adopted ≡ adopted
    → change_after (changes E) adopted ≡ changes (Tick now counts answer ∷ E)
changes_after g E now counts answer [] e = ap (λ ds. length (cond (ltb 0 (length ds)) (Tick now counts answer ∷ filter is_adoption E) (filter is_adoption E))) (sym e)
changes_after g E now counts answer (d ∷ ds) e =
    let some : ltb 0 (length answer.adopted) ≡ true = lt-ltb 0 (length answer.adopted) (omega (arith, ap length e)) in
    let more : changes E + 1 ≡ length (Tick now counts answer ∷ filter is_adoption E) = omega arith in
    more ∙ ap (λ b. length (cond b (Tick now counts answer ∷ filter is_adoption E) (filter is_adoption E))) (sym some)

-- where the table's tick is the life's
pub tick_follows : (g : Given) (E : List Entry) (a b : State) (now : ℕ) (counts : List ℕ) → b ≡ after_tick_of a now counts → StandsFor g E a
    → content_of g (Tick now counts (tick_answer g E now counts) ∷ E)
    ≡ after_adoptions (after_tick (content_of g E) (rule_of g.wait_kind g.wait now) (row_layout_of g E)) (tick_answer g E now counts).adopted
    → StandsFor g (Tick now counts (tick_answer g E now counts) ∷ E) b
tick_follows g E a b now counts e stands content = record {
  run = record { ticked = (refl, stands.run.ticked); sound = stands.run.sound };
  same = e ∙ ap (λ (c : State). after_tick_of c now counts) stands.same
      ∙ if_change g E now counts (has_change E)
      ∙ ap (λ n. kept_after g E now counts n (tick_answer g E now counts).adopted)
      (changes_after g E now counts (tick_answer g E now counts) (tick_answer g E now counts).adopted refl)
      ∙ ap (λ c. record (align_of g (Tick now counts (tick_answer g E now counts) ∷ E)) { content = c }) (sym content);
}

new_if : (change : ℕ) (b : Bool) (ds : List ℕ) → cond b (new_change change ds) None ≡ new_change change (cond b ds [])
new_if change true ds = refl
new_if change false ds = refl

-- where the rows that the table closes are the life's
pub tick_told : (g : Given) (E : List Entry) (a : State) (now : ℕ) (counts : List ℕ) → StandsFor g E a
    → closed_by (content_of g E) (rule_of g.wait_kind g.wait now) (row_layout_of g E) ≡ rows_of g E now
    → told_at a now counts ≡ ticked_of (changes E) (tick_answer g E now counts)
tick_told g E a now counts stands rows =
    let rule = rule_of g.wait_kind g.wait now in
    ap (λ (c : State). told_at c now counts) stands.same
    ∙ ap (λ n. record (told_at (align_of g E) now counts) { closed = n })
    (sym (length-map (closing_of (content_of g E) rule) (row_of (row_layout_of g E))) ∙ ap length rows)
    ∙ ap (λ ds. record (ticked_of (changes E) (tick_answer g E now counts)) { change = cond (has_change E) (new_change (changes E) ds) None; used_up = not (has_change E) && ltb 0 (length ds) })
    (ready_same g E counts)
    ∙ ap (λ n. record (ticked_of (changes E) (tick_answer g E now counts)) { change = n }) (new_if (changes E) (has_change E) (ready_columns g E counts))
