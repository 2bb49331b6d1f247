use Rattle.std.proofs.Common.{rules, arith, ◌≡◌, ◌<◌, ◌≤◌, ◌+◌, ◌∙◌, inl, inr, ltb, List, ap, length, refl, subst, sym}
use Rattle.std.proofs.lemmas.Bool.{cases_lt, lt-ltb, true≢false}
use Rattle.std.proofs.lemmas.List.{length-map}
use Rattle.std.specs.List.{All}
use Rattle.pdc_open_row.specs.pdc_row.RisingLaws.{RisingLaws}
use Rattle.pdc_table.specs.Content.{HasPlaces, HasSizesOf, IsContent, streams_of}
use Rattle.pdc_table.specs.Ring.{content_of, IsKept, view_of}
use Rattle.pdc_table.specs.declared.ring_table.RingTable.TheInside.{Inside}
use Rattle.pdc_table.specs.RingRows.{StandAbove, closed_row, closed_rows, copied, no_layout, row_in, rows_in, with_ages}
use Rattle.pdc_open_row.specs.pdc_columns.Layout.{LayoutView}
use Rattle.pdc_table.specs.TableView.{TableView}
use Rattle.pdc_open_row.specs.Views.{OpenRowView}
use Rattle.pdc_table.proofs.Keeps.{held_fit}
use Rattle.pdc_table.proofs.RingCopied.{AreAtMost, closed_theirs, copied-length, held-each, held-length, held-stand, held_copied, left, left-each, left-length, left-low, low-known, low-stand, now_theirs, open_theirs, their_closed, their_placed, their_rows}
use Rattle.pdc_table.proofs.RingKept.{IsKnown}
use Rattle.pdc_table.proofs.RingRows.{ArePlaced}
use Rattle.pdc_table.proofs.ring_table.RingTableTable.copy_from.Goals as goal

-- both have the same sizes
record HaveSizes (t other : Inside) : Type 0 where
  window : t.circle.window ≡ other.circle.window
  columns : t.columns ≡ other.columns
  lanes : t.lanes ≡ other.lanes

sizes : (t other : Inside) (a b : TableView) → view_of t ≡ a → view_of other ≡ b → HasSizesOf b.content a.content → HaveSizes t other
sizes t other a b s o h = record {
  window = ap (λ (v : TableView). v.content.window) s ∙ h.window ∙ sym (ap (λ (v : TableView). v.content.window) o);
  columns = ap (λ (v : TableView). v.content.columns) s ∙ h.columns ∙ sym (ap (λ (v : TableView). v.content.columns) o);
  lanes = ap (λ (v : TableView). v.content.lanes) s ∙ h.lanes ∙ sym (ap (λ (v : TableView). v.content.lanes) o);
}

-- what is held has room in the window
fits : (R : RisingLaws) (t : Inside) → IsKept t → length t.closed.instants.items + length t.rows.open.items ≤ t.circle.window
fits R t k =
    let fit : length (closed_rows (with_ages t.rows.places.items t.rows.ages.items) t.closed.layouts.items t.circle.window t.closed.instants.items)
    + length (rows_in (with_ages t.rows.places.items t.rows.ages.items) t.circle.window t.rows.open.items) ≤ t.circle.window = held_fit R (content_of t) k.content in
    omega (
      arith,
      length-map t.closed.instants.items (closed_row (with_ages t.rows.places.items t.rows.ages.items) t.closed.layouts.items t.circle.window),
      length-map t.rows.open.items (row_in (with_ages t.rows.places.items t.rows.ages.items) t.circle.window),
    )

-- the places after rows were left, and after the copy
abbrev before : Inside → Inside → List OpenRowView
before t other = left (ltb other.closed.last t.closed.last) other.circle.window t.rows.open.items t.rows.places.items

abbrev layouts_after : Inside → Inside → List LayoutView
layouts_after t other = copied no_layout other.circle.window other.closed.instants.items other.closed.layouts.items t.closed.layouts.items

abbrev after : Inside → Inside → List OpenRowView
after t other = held_copied other.circle.window other.rows.open.items other.closed.instants.items other.rows.places.items (before t other)

module _ (t other : Inside) (k : IsKept t) (o : IsKept other) (h : HaveSizes t other) where
  least : 0 < other.circle.window
  least = omega (arith, o.content.window_least)

  size_before : length (before t other) ≡ other.circle.window
  size_before = left-length (ltb other.closed.last t.closed.last) other.circle.window t.rows.open.items t.rows.places.items ∙ k.size ∙ h.window

  size_after : length (after t other) ≡ other.circle.window
  size_after = held-length other.circle.window other.rows.open.items other.closed.instants.items other.rows.places.items (before t other) ∙ size_before

  low : AreAtMost other.closed.last (before t other)
  low =
      left-low (ltb other.closed.last t.closed.last) other.closed.last t.closed.last other.circle.window t.rows.open.items t.rows.places.items least (k.size ∙ h.window)
      (λ f. elim (cases_lt other.closed.last t.closed.last) [
        | inl l ↦ absurd (true≢false (sym (lt-ltb other.closed.last t.closed.last l) ∙ f))
        | inr l ↦ l
      ])
      k.known (rw (sym h.window) k.stand)

  sized : All (HasPlaces (streams_of (content_of other)) other.columns) t.rows.places.items
  sized = rw (sym h.columns, sym h.lanes) k.each

  each_after : All (HasPlaces (streams_of (content_of other)) other.columns) (after t other)
  each_after =
      held-each (HasPlaces (streams_of (content_of other)) other.columns) other.circle.window other.rows.open.items other.closed.instants.items other.rows.places.items (before t other) least o.size o.each
      (left-each (ltb other.closed.last t.closed.last) (streams_of (content_of other)) other.columns other.circle.window t.rows.open.items t.rows.places.items least (k.size ∙ h.window) sized)

  known_after : All (IsKnown other.closed.last other.rows.open.items) (after t other)
  known_after =
      held-each (IsKnown other.closed.last other.rows.open.items) other.circle.window other.rows.open.items other.closed.instants.items other.rows.places.items (before t other) least o.size o.known
      (low-known other.closed.last other.rows.open.items (before t other) low)

  stand_after : StandAbove other.closed.last other.circle.window (after t other)
  stand_after =
      held-stand other.closed.last other.circle.window other.rows.open.items other.closed.instants.items other.rows.places.items (before t other) least o.size o.stand
      (low-stand other.closed.last other.circle.window (before t other) low)

  placed_after : ArePlaced (after t other) other.circle.window other.rows.open.items
  placed_after =
      their_placed other.circle.window other.rows.places.items (after t other) other.rows.open.items
      (open_theirs other.circle.window other.rows.open.items other.closed.instants.items other.rows.places.items (before t other) least size_before) o.placed

  closed_placed_after : ArePlaced (after t other) other.circle.window other.closed.instants.items
  closed_placed_after =
      their_placed other.circle.window other.rows.places.items (after t other) other.closed.instants.items
      (closed_theirs other.circle.window other.rows.open.items other.closed.instants.items other.rows.places.items (before t other) least size_before) o.closed_placed

  rows_after : rows_in (with_ages (after t other) other.rows.ages.items) other.circle.window other.rows.open.items ≡ rows_in (with_ages other.rows.places.items other.rows.ages.items) other.circle.window other.rows.open.items
  rows_after =
      their_rows other.circle.window other.rows.places.items (after t other) other.rows.ages.items other.rows.open.items least o.size size_after o.ages
      (open_theirs other.circle.window other.rows.open.items other.closed.instants.items other.rows.places.items (before t other) least size_before)

  closed_after : closed_rows (with_ages (after t other) other.rows.ages.items) (layouts_after t other) other.circle.window other.closed.instants.items ≡ closed_rows (with_ages other.rows.places.items other.rows.ages.items) other.closed.layouts.items other.circle.window other.closed.instants.items
  closed_after =
      their_closed other.circle.window other.rows.places.items (after t other) other.rows.ages.items other.closed.layouts.items (layouts_after t other) other.closed.instants.items least o.size size_after o.ages
      (closed_theirs other.circle.window other.rows.open.items other.closed.instants.items other.rows.places.items (before t other) least size_before)
      (now_theirs no_layout other.circle.window other.closed.instants.items other.closed.layouts.items t.closed.layouts.items least (k.layouts ∙ h.window))

-- the copy, as the code makes it

have_sizes : (c : goal.After-copy-2) → HaveSizes c.self.inside c.other.inside
have_sizes c = sizes c.self.inside c.other.inside c.args.self.now c.args.other.now c.self.view_is c.other.view_is c.requires

places : (c : goal.After-copy-2) → c.copy.new.self.places.items ≡ after c.self.inside c.other.inside
places c =
    c.copy.ensures.places
    ∙ ap (held_copied c.other.inside.circle.window c.other.inside.rows.open.items c.other.inside.closed.instants.items c.other.inside.rows.places.items)
    (c.leave.ensures.items ∙ ap (λ is. left (ltb c.other.inside.closed.last c.self.inside.closed.last) c.other.inside.circle.window is c.self.inside.rows.places.items) c.as_slice-2.ensures.value)

rows : (c : goal.After-copy-2) → rows_in (with_ages c.copy.new.self.places.items c.copy.new.self.ages.items) c.other.inside.circle.window c.copy.new.self.open.items ≡ rows_in (with_ages c.other.inside.rows.places.items c.other.inside.rows.ages.items) c.other.inside.circle.window c.other.inside.rows.open.items
rows c = rw (places c, c.copy.ensures.ages, c.copy.ensures.open) (rows_after c.self.inside c.other.inside c.self.invariant c.other.invariant (have_sizes c))

closed : (c : goal.After-copy-2) → closed_rows (with_ages c.copy.new.self.places.items c.copy.new.self.ages.items) c.copy-2.new.self.layouts.items c.other.inside.circle.window c.copy-2.new.self.instants.items ≡ closed_rows (with_ages c.other.inside.rows.places.items c.other.inside.rows.ages.items) c.other.inside.closed.layouts.items c.other.inside.circle.window c.other.inside.closed.instants.items
closed c = rw (places c, c.copy.ensures.ages, c.copy-2.ensures.layouts, c.copy-2.ensures.instants) (closed_after c.self.inside c.other.inside c.self.invariant c.other.invariant (have_sizes c))

abbrev new_inside : goal.After-copy-2 → Inside
new_inside c = record {
  columns = c.other.inside.columns;
  lanes = c.other.inside.lanes;
  required = c.copy_items.new.kept;
  circle = c.other.inside.circle;
  rows = c.copy.new.self;
  closed = c.copy-2.new.self;
}

content : (c : goal.After-copy-2) → content_of (new_inside c) ≡ content_of c.other.inside
content c = rw (rows c, closed c, c.copy_items.ensures, c.as_slice.ensures.value, c.copy-2.ensures.last) refl

pub copy-requires-clause-size : goal.copy-requires-clause-size
copy-requires-clause-size c =
    let h : HaveSizes c.self.inside c.other.inside = sizes c.self.inside c.other.inside c.args.self.now c.args.other.now c.self.view_is c.other.view_is c.requires in
    ap length c.leave.ensures.items
    ∙ left-length (ltb c.other.inside.closed.last c.self.inside.closed.last) c.other.inside.circle.window c.as_slice-2.result.now c.self.inside.rows.places.items
    ∙ c.self.invariant.size ∙ h.window

pub copy-requires-clause-room : goal.copy-requires-clause-room
copy-requires-clause-room c =
    let h : HaveSizes c.self.inside c.other.inside = sizes c.self.inside c.other.inside c.args.self.now c.args.other.now c.self.view_is c.other.view_is c.requires in
    omega (arith, fits c.numbers_rise.ensures c.other.inside c.other.invariant, h.window, c.self.invariant.room)

pub copy-requires-2-clause-room : goal.copy-requires-2-clause-room
copy-requires-2-clause-room c =
    let h : HaveSizes c.self.inside c.other.inside = sizes c.self.inside c.other.inside c.args.self.now c.args.other.now c.self.view_is c.other.view_is c.requires in
    let closed : length c.other.inside.closed.instants.items ≡ length c.other.inside.closed.instants.items = search rules in
    omega (arith, fits c.numbers_rise.ensures c.other.inside c.other.invariant, h.window, c.self.invariant.closed_room)

pub invariant_of-self : goal.invariant_of-self
invariant_of-self c =
    let h : HaveSizes c.self.inside c.other.inside = have_sizes c in
    record {
      content = subst IsContent (sym (content c)) c.other.invariant.content;
      size = ap length (places c) ∙ size_after c.self.inside c.other.inside c.self.invariant c.other.invariant h;
      each = rw (places c) (each_after c.self.inside c.other.inside c.self.invariant c.other.invariant h);
      placed = rw (places c, c.copy.ensures.open) (placed_after c.self.inside c.other.inside c.self.invariant c.other.invariant h);
      ages = rw c.copy.ensures.ages c.other.invariant.ages;
      layouts = ap length c.copy-2.ensures.layouts
          ∙ copied-length no_layout c.other.inside.circle.window c.other.inside.closed.instants.items c.other.inside.closed.layouts.items c.self.inside.closed.layouts.items
          ∙ c.self.invariant.layouts ∙ h.window;
      closed_placed = rw (places c, c.copy-2.ensures.instants) (closed_placed_after c.self.inside c.other.inside c.self.invariant c.other.invariant h);
      known = rw (places c, c.copy.ensures.open, c.copy-2.ensures.last) (known_after c.self.inside c.other.inside c.self.invariant c.other.invariant h);
      stand = rw (places c, c.copy-2.ensures.last) (stand_after c.self.inside c.other.inside c.self.invariant c.other.invariant h);
      room = omega (arith, h.window, c.self.invariant.room, c.copy.ensures.open_capacity);
      closed_room = omega (arith, h.window, c.self.invariant.closed_room, c.copy-2.ensures.capacity);
    }

pub returns-clause-content : goal.returns-clause-content
returns-clause-content c = content c ∙ ap (λ (v : TableView). v.content) c.other.view_is

pub returns-clause-well_formed : goal.returns-clause-well_formed
returns-clause-well_formed c = subst IsContent (sym (content c)) c.other.invariant.content
