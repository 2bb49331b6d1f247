-- What was popped lies below what waits, at each call.
use Rattle.std.proofs.Common.{◌≡◌, ℕ, ◌+◌, ◌<◌, ◌≤◌, Bool, true, false, List, [], ◌∷◌, ◌++◌, map, max, filter, drop, Some, sym, subst, arith, if◌then◌else◌}
use Rattle.std.specs.List.{AllByRecursion, slice_get}
use Rattle.std.proofs.lemmas.Option.{none-some, same_Some}
use Rattle.pdc_arrival.specs.pdc_row.Quality.{greatest}
use Rattle.pdc_arrival.specs.pdc_row.Rising.{AreBelow, Rises}
use Rattle.pdc_arrival.specs.pdc_row.RowView.{RowView, row_instants}
use Rattle.pdc_table.specs.Closing.{aged, closes}
use Rattle.pdc_table.specs.Content.{Content, IsContent}
use Rattle.pdc_table.specs.pdc_columns.Layout.{LayoutView}
use Rattle.pdc_table.specs.OpenInstants.{instants_of}
use Rattle.pdc_table.specs.pdc_open_row.Row.{row_of}
use Rattle.pdc_table.specs.Steps.{after_pop, after_tick, closing_of, pop_answer}
use Rattle.pdc_table.specs.pdc_open_row.Views.{OpenRowView}
use Rattle.pdc_table.specs.pdc_open_row.declared.wait_rule.WaitRule.{WaitRule}
use Rattle.pdc_align.specs.Calls.{first_content}
use Rattle.pdc_align.specs.Popped.{IsPoppedTo}

abbrev AreLater : ℕ → List RowView → Type 0
AreLater popped rows = AllByRecursion (λ (row : RowView). popped < row.instant) rows

-- ---- the start

pub popped_first : (window columns lanes floor : ℕ) (c : Content) → c ≡ first_content window columns lanes floor → IsPoppedTo floor c
popped_first window columns lanes floor c e = subst (λ (d : Content). IsPoppedTo floor d) (sym e) (record { closed = omega arith; waits = tt })

-- ---- a tick

later_append : (popped : ℕ) (rows more : List RowView) → AreLater popped rows → AreLater popped more → AreLater popped (rows ++ more)
later_append popped [] more h k = k
later_append popped (row ∷ rows) more h k = (h.0, later_append popped rows more h.1 k)

picked : (popped : ℕ) (layout : LayoutView) (b : Bool) (row : OpenRowView) (rows : List OpenRowView) → popped < row.instant → AreLater popped (map (row_of layout) rows)
    → AreLater popped (map (row_of layout) (if b then row ∷ rows else rows))
picked popped layout true row rows h k = (h, k)
picked popped layout false row rows h k = k

opens_later : (popped low : ℕ) (layout : LayoutView) (f : OpenRowView → Bool) (rows : List OpenRowView) → popped ≤ low → Rises low (instants_of rows)
    → AreLater popped (map (row_of layout) (filter f (map aged rows)))
opens_later popped low layout f [] h r = tt
opens_later popped low layout f (row ∷ rows) h r =
    picked popped layout (f (aged row)) (aged row) (filter f (map aged rows)) (omega (arith, h, r.0)) (opens_later popped row.instant layout f rows (omega (arith, h, r.0)) r.1)

-- ---- a pop

rows_later : (low : ℕ) (rows : List RowView) → Rises low (row_instants rows) → AreLater low rows
rows_later low [] r = tt
rows_later low (row ∷ rows) r = (r.0, raise_all low row.instant rows r.0 (rows_later row.instant rows r.1)) where
  raise_all : (low high : ℕ) (rows : List RowView) → low < high → AreLater high rows → AreLater low rows
  raise_all low high [] h k = tt
  raise_all low high (row ∷ rows) h k = (omega (arith, h, k.0), raise_all low high rows h k.1)

pub pop_later : (popped : ℕ) (closed : List RowView) (row : RowView) → Some row ≡ slice_get closed 0 → AreLater popped closed → popped < row.instant
pop_later popped [] row e h = absurd (none-some row (sym e))
pop_later popped (first ∷ rows) row e h = subst (λ (r : RowView). popped < r.instant) (sym (same_Some row first e)) h.0

pub rest_later : (last : ℕ) (closed : List RowView) (ms : List ℕ) (row : RowView) → Some row ≡ slice_get closed 0 → Rises 0 (row_instants closed ++ ms) → AreBelow (last + 1) (row_instants closed)
    → (row.instant ≤ last) × AreLater row.instant (drop 1 closed)
rest_later last [] ms row e r b = absurd (none-some row (sym e))
rest_later last (first ∷ rows) ms row e r b =
    subst (λ (n : RowView). (n.instant ≤ last) × AreLater n.instant rows) (sym (same_Some row first e)) (omega (arith, b.0), rows_later first.instant rows (front first.instant rows ms r.1)) where
      front : (low : ℕ) (rows : List RowView) (ms : List ℕ) → Rises low (row_instants rows ++ ms) → Rises low (row_instants rows)
      front low [] ms r = tt
      front low (row ∷ rows) ms r = (r.0, front row.instant rows ms r.1)

pub popped_rest : (c new : Content) (row : RowView) → Some row ≡ pop_answer c → new ≡ after_pop c → IsContent c → IsPoppedTo row.instant new
popped_rest c new row a e h =
    let parts = rest_later c.last c.closed (instants_of c.open_rows) row a h.held_rise h.closed_below in
    subst (λ (d : Content). IsPoppedTo row.instant d) (sym e) (record { closed = parts.0; waits = parts.1 })

greatest_ge : (low : ℕ) (ns : List ℕ) → low ≤ greatest low ns
greatest_ge low [] = omega arith
greatest_ge low (n ∷ ns) = omega (arith, greatest_ge (max low n) ns)

pub popped_tick : (popped : ℕ) (c new : Content) (rule : WaitRule) (layout : LayoutView) → new ≡ after_tick c rule layout → IsContent c → IsPoppedTo popped c → IsPoppedTo popped new
popped_tick popped c new rule layout e h p = subst (λ (d : Content). IsPoppedTo popped d) (sym e) (record {
  closed = omega (arith, p.closed, greatest_ge c.last (instants_of (closing_of c rule)));
  waits = later_append popped c.closed (map (row_of layout) (closing_of c rule)) p.waits (opens_later popped c.last layout (closes c.required rule (map aged c.open_rows)) c.open_rows p.closed h.open_above);
})
