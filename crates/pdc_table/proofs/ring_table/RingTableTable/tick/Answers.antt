use Rattle.std.proofs.Common.{rules, arith, ◌≡◌, ◌≤◌, ◌+◌, ◌++◌, ◌∙◌, ap, length, map, refl, subst, sym, take}
use Rattle.std.proofs.lemmas.List.{length-map}
use Rattle.pdc_table.specs.Closing.{aged, closing, counter, staying}
use Rattle.pdc_table.specs.Content.{IsContent, streams_of}
use Rattle.pdc_open_row.specs.pdc_columns.Layout.{layout_view}
use Rattle.pdc_table.specs.Ring.{content_of}
use Rattle.pdc_table.specs.RingRows.{closed_row, closed_rows, laid, row_in, rows_in, with_ages}
use Rattle.pdc_open_row.specs.Row.{row_of}
use Rattle.pdc_table.specs.Steps.{after_tick, closing_of, disagreements_after, disagreements_in, staying_of, tick_answer}
use Rattle.pdc_table.specs.TableView.{TableView}
use Rattle.pdc_table.proofs.Keeps.{closed_shapes, closing_few, held_fit, keeps-tick}
use Rattle.pdc_table.proofs.RingAges.{aged_closed, aged_length, aged_placed, mapped_rows, older_length, older_rows}
use Rattle.pdc_table.proofs.RingClosed.{AreApart, are_apart_take, held_apart, laid-length, laid_closed, placed_more}
use Rattle.pdc_table.proofs.RingKept.{IsRing, ring_closed}
use Rattle.pdc_table.proofs.RingRows.{near_open}
use Rattle.pdc_table.proofs.ring_table.RingTableTable.tick.Goals as goal

pub close_due-count-requires-clause-ages_size : goal.close_due-count-requires-clause-ages_size
close_due-count-requires-clause-ages_size c = older_length c.self.inside.rows.ages.items c.grow_older.new.self.items c.self.inside.circle.window c.grow_older.ensures.items c.self.invariant.ages

pub close_due-count-requires-clause-rising : goal.close_due-count-requires-clause-rising
close_due-count-requires-clause-rising c =
    (near_open c.numbers_rise.ensures (content_of c.self.inside) (with_ages c.self.inside.rows.places.items c.self.inside.rows.ages.items) c.self.inside.rows.open.items (aged_placed c.self.inside.rows.places.items c.self.inside.rows.ages.items c.self.inside.circle.window c.self.inside.rows.open.items (omega (arith, c.self.invariant.content.window_least)) c.self.invariant.size c.self.invariant.ages c.self.invariant.placed) c.self.invariant.content).0

pub close_due-count-requires-clause-placed : goal.close_due-count-requires-clause-placed
close_due-count-requires-clause-placed c =
    aged_placed c.self.inside.rows.places.items c.grow_older.new.self.items c.self.inside.circle.window c.self.inside.rows.open.items (omega (arith, c.self.invariant.content.window_least)) c.self.invariant.size (older_length c.self.inside.rows.ages.items c.grow_older.new.self.items c.self.inside.circle.window c.grow_older.ensures.items c.self.invariant.ages) c.self.invariant.placed

pub close_due-count-requires-clause-room : goal.close_due-count-requires-clause-room
close_due-count-requires-clause-room c =
    let fit : length (closed_rows (with_ages c.self.inside.rows.places.items c.self.inside.rows.ages.items) c.self.inside.closed.layouts.items c.self.inside.circle.window c.self.inside.closed.instants.items) + length (rows_in (with_ages c.self.inside.rows.places.items c.self.inside.rows.ages.items) c.self.inside.circle.window c.self.inside.rows.open.items) ≤ c.self.inside.circle.window = held_fit c.numbers_rise.ensures (content_of c.self.inside) c.self.invariant.content in
    let opened : length c.self.inside.rows.open.items ≡ length c.self.inside.rows.open.items = search rules in
    let closed : length c.self.inside.closed.instants.items ≡ length c.self.inside.closed.instants.items = search rules in
    omega (arith, c.self.invariant.closed_room, length-map c.self.inside.closed.instants.items (closed_row (with_ages c.self.inside.rows.places.items c.self.inside.rows.ages.items) c.self.inside.closed.layouts.items c.self.inside.circle.window), length-map c.self.inside.rows.open.items (row_in (with_ages c.self.inside.rows.places.items c.self.inside.rows.ages.items) c.self.inside.circle.window))

-- the rows that the code looks at are those before, each a tick older
rows : (c : goal.After-remove_front) → rows_in (with_ages c.self.inside.rows.places.items c.grow_older.new.self.items) c.self.inside.circle.window c.self.inside.rows.open.items ≡ map aged (rows_in (with_ages c.self.inside.rows.places.items c.self.inside.rows.ages.items) c.self.inside.circle.window c.self.inside.rows.open.items)
rows c =
    ap (λ ps. rows_in ps c.self.inside.circle.window c.self.inside.rows.open.items) (ap (with_ages c.self.inside.rows.places.items) c.grow_older.ensures.items ∙ older_rows c.self.inside.rows.places.items c.self.inside.rows.ages.items)
    ∙ mapped_rows aged (with_ages c.self.inside.rows.places.items c.self.inside.rows.ages.items) c.self.inside.circle.window c.self.inside.rows.open.items (omega (arith, c.self.invariant.content.window_least)) (aged_length c.self.inside.rows.places.items c.self.inside.rows.ages.items c.self.inside.circle.window c.self.invariant.size c.self.invariant.ages)

closes : (c : goal.After-remove_front) → closing c.as_slice.result.now c.args.rule (rows_in (with_ages c.self.inside.rows.places.items c.grow_older.new.self.items) c.self.inside.circle.window c.self.inside.rows.open.items) ≡ closing_of (content_of c.self.inside) c.args.rule
closes c =
    ap (λ rs. closing rs c.args.rule (rows_in (with_ages c.self.inside.rows.places.items c.grow_older.new.self.items) c.self.inside.circle.window c.self.inside.rows.open.items)) c.as_slice.ensures.value
    ∙ ap (closing c.self.inside.required.items c.args.rule) (rows c)

stays : (c : goal.After-remove_front) → rows_in (with_ages c.self.inside.rows.places.items c.grow_older.new.self.items) c.self.inside.circle.window c.remove_front.new.self.items ≡ staying_of (content_of c.self.inside) c.args.rule
stays c =
    ap (rows_in (with_ages c.self.inside.rows.places.items c.grow_older.new.self.items) c.self.inside.circle.window) c.remove_front.ensures.items ∙ c.close_due-count.ensures.staying
    ∙ ap (λ rs. staying rs c.args.rule (rows_in (with_ages c.self.inside.rows.places.items c.grow_older.new.self.items) c.self.inside.circle.window c.self.inside.rows.open.items)) c.as_slice.ensures.value
    ∙ ap (staying c.self.inside.required.items c.args.rule) (rows c)

-- the closed rows are those before, and those that close now
older_closed : (c : goal.After-remove_front) → closed_rows (with_ages c.self.inside.rows.places.items c.grow_older.new.self.items) c.self.inside.closed.layouts.items c.self.inside.circle.window c.self.inside.closed.instants.items ≡ closed_rows (with_ages c.self.inside.rows.places.items c.self.inside.rows.ages.items) c.self.inside.closed.layouts.items c.self.inside.circle.window c.self.inside.closed.instants.items
older_closed c =
    aged_closed c.self.inside.rows.places.items c.grow_older.new.self.items c.self.inside.closed.layouts.items c.self.inside.circle.window c.self.inside.closed.instants.items (omega (arith, c.self.invariant.content.window_least)) c.self.invariant.size (older_length c.self.inside.rows.ages.items c.grow_older.new.self.items c.self.inside.circle.window c.grow_older.ensures.items c.self.invariant.ages)
    ∙ sym (aged_closed c.self.inside.rows.places.items c.self.inside.rows.ages.items c.self.inside.closed.layouts.items c.self.inside.circle.window c.self.inside.closed.instants.items (omega (arith, c.self.invariant.content.window_least)) c.self.invariant.size c.self.invariant.ages)

apart : (c : goal.After-remove_front) → AreApart c.self.inside.circle.window c.self.inside.closed.instants.items (take c.close_due-count.result c.self.inside.rows.open.items)
apart c =
    are_apart_take c.self.inside.circle.window c.close_due-count.result c.self.inside.closed.instants.items c.self.inside.rows.open.items
    (held_apart c.numbers_rise.ensures (content_of c.self.inside) (with_ages c.self.inside.rows.places.items c.self.inside.rows.ages.items) c.self.inside.closed.layouts.items c.self.inside.closed.instants.items c.self.inside.rows.open.items (aged_placed c.self.inside.rows.places.items c.self.inside.rows.ages.items c.self.inside.circle.window c.self.inside.closed.instants.items (omega (arith, c.self.invariant.content.window_least)) c.self.invariant.size c.self.invariant.ages c.self.invariant.closed_placed) (aged_placed c.self.inside.rows.places.items c.self.inside.rows.ages.items c.self.inside.circle.window c.self.inside.rows.open.items (omega (arith, c.self.invariant.content.window_least)) c.self.invariant.size c.self.invariant.ages c.self.invariant.placed) c.self.invariant.content)

due : (c : goal.After-remove_front) → rows_in (with_ages c.self.inside.rows.places.items c.grow_older.new.self.items) c.self.inside.circle.window (take c.close_due-count.result c.self.inside.rows.open.items) ≡ closing_of (content_of c.self.inside) c.args.rule
due c = c.close_due-count.ensures.due_rows ∙ closes c

more : (c : goal.After-remove_front) → closed_rows (with_ages c.self.inside.rows.places.items c.grow_older.new.self.items) c.close_due-count.new.self.layouts.items c.self.inside.circle.window c.close_due-count.new.self.instants.items
    ≡ closed_rows (with_ages c.self.inside.rows.places.items c.self.inside.rows.ages.items) c.self.inside.closed.layouts.items c.self.inside.circle.window c.self.inside.closed.instants.items ++ map (row_of (layout_view c.args.layout.now)) (closing_of (content_of c.self.inside) c.args.rule)
more c =
    ap (λ ls. closed_rows (with_ages c.self.inside.rows.places.items c.grow_older.new.self.items) ls c.self.inside.circle.window c.close_due-count.new.self.instants.items) c.close_due-count.ensures.layouts
    ∙ ap (closed_rows (with_ages c.self.inside.rows.places.items c.grow_older.new.self.items) (laid (layout_view c.args.layout.now) c.self.inside.circle.window (take c.close_due-count.result c.self.inside.rows.open.items) c.self.inside.closed.layouts.items) c.self.inside.circle.window) c.close_due-count.ensures.closed
    ∙ laid_closed (layout_view c.args.layout.now) c.self.inside.circle.window (take c.close_due-count.result c.self.inside.rows.open.items) (with_ages c.self.inside.rows.places.items c.grow_older.new.self.items) c.self.inside.closed.layouts.items c.self.inside.closed.instants.items
    (omega (arith, c.self.invariant.content.window_least)) c.self.invariant.layouts (apart c)
    ∙ ap (λ rs. rs ++ map (row_of (layout_view c.args.layout.now)) (rows_in (with_ages c.self.inside.rows.places.items c.grow_older.new.self.items) c.self.inside.circle.window (take c.close_due-count.result c.self.inside.rows.open.items))) (older_closed c)
    ∙ ap (λ rs. closed_rows (with_ages c.self.inside.rows.places.items c.self.inside.rows.ages.items) c.self.inside.closed.layouts.items c.self.inside.circle.window c.self.inside.closed.instants.items ++ map (row_of (layout_view c.args.layout.now)) rs) (due c)

content : (c : goal.After-remove_front) → record (content_of c.self.inside) {
  open_rows = rows_in (with_ages c.self.inside.rows.places.items c.grow_older.new.self.items) c.self.inside.circle.window c.remove_front.new.self.items;
  closed = closed_rows (with_ages c.self.inside.rows.places.items c.grow_older.new.self.items) c.close_due-count.new.self.layouts.items c.self.inside.circle.window c.close_due-count.new.self.instants.items;
  last = c.close_due-count.new.self.last;
} ≡ after_tick (content_of c.self.inside) c.args.rule (layout_view c.args.layout.now)
content c =
    rw (stays c, more c, c.close_due-count.ensures.last, closes c) refl

pub overflow_cast-result : goal.overflow_cast-result
overflow_cast-result c =
    let few : length (closing_of (content_of c.self.inside) c.args.rule) ≤ c.self.inside.circle.window = closing_few c.numbers_rise.ensures (content_of c.self.inside) c.args.rule c.self.invariant.content in
    let is : c.close_due-count.result ≡ length (closing_of (content_of c.self.inside) c.args.rule) = c.close_due-count.ensures.answer ∙ ap length (closes c) in
    omega (arith, c.self.invariant.content.window_most)

pub returns-clause-answer : goal.returns-clause-answer
returns-clause-answer c = c.close_due-count.ensures.answer ∙ ap length (closes c) ∙ ap (λ (t : TableView). tick_answer t.content c.args.rule) c.self.view_is

pub returns-clause-content : goal.returns-clause-content
returns-clause-content c = content c ∙ ap (λ (t : TableView). after_tick t.content c.args.rule (layout_view c.args.layout.now)) c.self.view_is

pub returns-clause-shapes : goal.returns-clause-shapes
returns-clause-shapes c h = closed_shapes c.args.self.now.content c.args.rule (layout_view c.args.layout.now) h

pub returns-clause-disagreements : goal.returns-clause-disagreements
returns-clause-disagreements c =
    c.close_due-count.ensures.disagree ∙ ap (λ rs. counter (c.self.inside.closed.disagree + disagreements_in (layout_view c.args.layout.now) rs)) (closes c)
    ∙ ap (λ (t : TableView). disagreements_after t.disagreements t.content c.args.rule (layout_view c.args.layout.now)) c.self.view_is

pub returns-clause-well_formed : goal.returns-clause-well_formed
returns-clause-well_formed c = subst IsContent (sym (content c)) (keeps-tick c.numbers_rise.ensures (content_of c.self.inside) c.args.rule (layout_view c.args.layout.now) c.self.invariant.content)

pub invariant_of-self : goal.invariant_of-self
invariant_of-self c =
    let ring : IsRing c.self.inside.circle.window c.close_due-count.new.self.last (streams_of (content_of c.self.inside)) c.self.inside.columns c.self.inside.rows.places.items c.remove_front.new.self.items =
    rw (c.close_due-count.ensures.front, c.remove_front.ensures.items) (ring_closed c.numbers_rise.ensures c.self.inside.circle.window c.self.inside.closed.last (streams_of (content_of c.self.inside)) c.self.inside.columns c.close_due-count.result c.self.inside.rows.places.items c.self.inside.rows.open.items
    (record { size = c.self.invariant.size; each = c.self.invariant.each; placed = c.self.invariant.placed; known = c.self.invariant.known; stand = c.self.invariant.stand })) in
    record {
      content = subst IsContent (sym (content c)) (keeps-tick c.numbers_rise.ensures (content_of c.self.inside) c.args.rule (layout_view c.args.layout.now) c.self.invariant.content);
      size = ring.size;
      each = ring.each;
      placed = ring.placed;
      ages = older_length c.self.inside.rows.ages.items c.grow_older.new.self.items c.self.inside.circle.window c.grow_older.ensures.items c.self.invariant.ages;
      layouts = ap length c.close_due-count.ensures.layouts ∙ laid-length (layout_view c.args.layout.now) c.self.inside.circle.window (take c.close_due-count.result c.self.inside.rows.open.items) c.self.inside.closed.layouts.items ∙ c.self.invariant.layouts;
      closed_placed = rw c.close_due-count.ensures.closed (placed_more c.self.inside.rows.places.items c.self.inside.circle.window c.close_due-count.result c.self.inside.closed.instants.items c.self.inside.rows.open.items c.self.invariant.closed_placed c.self.invariant.placed);
      known = ring.known;
      stand = ring.stand;
      room = rw c.remove_front.ensures.capacity c.self.invariant.room;
      closed_room = rw c.close_due-count.ensures.capacity c.self.invariant.closed_room;
    }
