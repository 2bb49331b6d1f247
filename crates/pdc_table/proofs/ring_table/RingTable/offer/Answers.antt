use Rattle.std.proofs.Common.{arith, eqb, ◌≡◌, ◌<◌, ◌∙◌, ap, ℕ, ◌%◌, cond, if◌then◌else◌, set, subst, sym, true, false, refl, length, None, Option, Some}
use Rattle.std.specs.List.{All, list_all}
use Rattle.std.proofs.lemmas.Bool.{ne_eqb}
use Rattle.std.proofs.lemmas.List.{length-map}
use Rattle.pdc_open_row.specs.pdc_row.CellView.{CellView}
use Rattle.pdc_open_row.specs.pdc_row.Rising.{AreNear, Rises, is_near, place}
use Rattle.pdc_table.specs.Content.{HasPlaces, lane_of, streams_of}
use Rattle.pdc_table.specs.Placing.{row_at, with_row}
use Rattle.pdc_open_row.specs.Views.{OpenRowView}
use Rattle.pdc_table.specs.Ring.{content_of}
use Rattle.pdc_table.specs.RingRows.{base_row, closed_rows, met_row, row_in, rows_in, with_ages}
use Rattle.pdc_table.specs.Steps.{after_put, after_take, fresh_row, is_near_all, put_answer}
use Rattle.pdc_open_row.specs.Taking.{answer_at, is_taken, with_frame}
use Rattle.pdc_open_row.specs.Twin.{IsTwinIn}
use Rattle.pdc_table.specs.TableView.{TableView}
use Rattle.pdc_table.proofs.Keeps.{has_room, keeps-offered}
use Rattle.pdc_table.proofs.RingAges.{aged_answer, aged_closed, aged_placed, aged_put, aged_ring, aged_row, aged_twin, ages_kept}
use Rattle.pdc_table.proofs.RingClosed.{near_closed, ring_held, written_closed, written_placed}
use Rattle.pdc_table.proofs.RingKept.{IsPutInto, IsRing, met_in, put_kept, put_rows, sized_in}
use Rattle.pdc_table.proofs.RingPut.{far_content, put_content, put_far, put_near}
use Rattle.pdc_table.proofs.RingRows.{ArePlaced, IsApart, near_apart, near_open}
use Rattle.pdc_table.proofs.ring_table.RingTable.offer.Goals as goal
use Rattle.pdc_table.proofs.ring_table.RingTable.offer.Given as given

pub is_in_window-requires-clause-rising : goal.is_in_window-requires-clause-rising
is_in_window-requires-clause-rising g c =
    subst (λ ns. Rises 0 ns) (sym (ring_held (content_of c.self.inside) (with_ages c.self.inside.rows.places.items c.self.inside.rows.ages.items) c.self.inside.closed.layouts.items c.self.inside.closed.instants.items c.self.inside.rows.open.items c.self.inside.rows.open.items refl (aged_placed c.self.inside.rows.places.items c.self.inside.rows.ages.items c.self.inside.circle.window c.self.inside.closed.instants.items (omega (arith, c.self.invariant.content.window_least)) c.self.invariant.size c.self.invariant.ages c.self.invariant.closed_placed) (aged_placed c.self.inside.rows.places.items c.self.inside.rows.ages.items c.self.inside.circle.window c.self.inside.rows.open.items (omega (arith, c.self.invariant.content.window_least)) c.self.invariant.size c.self.invariant.ages c.self.invariant.placed) refl refl))
    c.self.invariant.content.held_rise

pub is_in_window-requires-clause-held_near : goal.is_in_window-requires-clause-held_near
is_in_window-requires-clause-held_near g c =
    subst (λ ns. AreNear c.self.inside.circle.window ns) (sym (ring_held (content_of c.self.inside) (with_ages c.self.inside.rows.places.items c.self.inside.rows.ages.items) c.self.inside.closed.layouts.items c.self.inside.closed.instants.items c.self.inside.rows.open.items c.self.inside.rows.open.items refl (aged_placed c.self.inside.rows.places.items c.self.inside.rows.ages.items c.self.inside.circle.window c.self.inside.closed.instants.items (omega (arith, c.self.invariant.content.window_least)) c.self.invariant.size c.self.invariant.ages c.self.invariant.closed_placed) (aged_placed c.self.inside.rows.places.items c.self.inside.rows.ages.items c.self.inside.circle.window c.self.inside.rows.open.items (omega (arith, c.self.invariant.content.window_least)) c.self.invariant.size c.self.invariant.ages c.self.invariant.placed) refl refl))
    c.self.invariant.content.held_near

far : (g : given.Over) (c : goal.Then-not-is_in_window g) → is_near_all (content_of c.self.inside) c.args.instant ≡ false
far g c =
    ap (list_all (is_near c.self.inside.circle.window c.args.instant)) (sym (ring_held (content_of c.self.inside) (with_ages c.self.inside.rows.places.items c.self.inside.rows.ages.items) c.self.inside.closed.layouts.items c.self.inside.closed.instants.items c.self.inside.rows.open.items c.self.inside.rows.open.items refl (aged_placed c.self.inside.rows.places.items c.self.inside.rows.ages.items c.self.inside.circle.window c.self.inside.closed.instants.items (omega (arith, c.self.invariant.content.window_least)) c.self.invariant.size c.self.invariant.ages c.self.invariant.closed_placed) (aged_placed c.self.inside.rows.places.items c.self.inside.rows.ages.items c.self.inside.circle.window c.self.inside.rows.open.items (omega (arith, c.self.invariant.content.window_least)) c.self.invariant.size c.self.invariant.ages c.self.invariant.placed) refl refl))
    ∙ sym c.is_in_window.ensures ∙ c.if-not-is_in_window.true

pub returns-then-not-is_in_window-clause-answer : goal.returns-then-not-is_in_window-clause-answer
returns-then-not-is_in_window-clause-answer g c =
    put_far (content_of c.self.inside) c.args.stream c.args.instant (g.C.Blocks.cells c.args.blocks.now c.args.quality) c.if-instant-self.false (far g c)
    ∙ ap (λ (t : TableView). put_answer t.content c.args.stream c.args.instant (g.C.Blocks.cells c.args.blocks.now c.args.quality)) c.self.view_is

pub returns-then-not-is_in_window-clause-content : goal.returns-then-not-is_in_window-clause-content
returns-then-not-is_in_window-clause-content g c =
    far_content c.args.self.now.content c.args.stream c.args.instant (g.C.Blocks.cells c.args.blocks.now c.args.quality)
    (put_far (content_of c.self.inside) c.args.stream c.args.instant (g.C.Blocks.cells c.args.blocks.now c.args.quality) c.if-instant-self.false (far g c)
    ∙ ap (λ (t : TableView). put_answer t.content c.args.stream c.args.instant (g.C.Blocks.cells c.args.blocks.now c.args.quality)) c.self.view_is)

pub take-requires-clause-rising : goal.take-requires-clause-rising
take-requires-clause-rising g c =
    c.numbers_rise.ensures.rises_above 0 c.self.inside.closed.last c.self.inside.rows.open.items (omega arith)
    (near_open c.numbers_rise.ensures (content_of c.self.inside) (with_ages c.self.inside.rows.places.items c.self.inside.rows.ages.items) c.self.inside.rows.open.items (aged_placed c.self.inside.rows.places.items c.self.inside.rows.ages.items c.self.inside.circle.window c.self.inside.rows.open.items (omega (arith, c.self.invariant.content.window_least)) c.self.invariant.size c.self.invariant.ages c.self.invariant.placed) c.self.invariant.content).0

pub take-requires-clause-room : goal.take-requires-clause-room
take-requires-clause-room g c n =
    let near : is_near_all (content_of c.self.inside) c.args.instant ≡ true =
    ap (list_all (is_near c.self.inside.circle.window c.args.instant)) (sym (ring_held (content_of c.self.inside) (with_ages c.self.inside.rows.places.items c.self.inside.rows.ages.items) c.self.inside.closed.layouts.items c.self.inside.closed.instants.items c.self.inside.rows.open.items c.self.inside.rows.open.items refl (aged_placed c.self.inside.rows.places.items c.self.inside.rows.ages.items c.self.inside.circle.window c.self.inside.closed.instants.items (omega (arith, c.self.invariant.content.window_least)) c.self.invariant.size c.self.invariant.ages c.self.invariant.closed_placed) (aged_placed c.self.inside.rows.places.items c.self.inside.rows.ages.items c.self.inside.circle.window c.self.inside.rows.open.items (omega (arith, c.self.invariant.content.window_least)) c.self.invariant.size c.self.invariant.ages c.self.invariant.placed) refl refl))
    ∙ sym c.if-not-is_in_window.ensures in
    let ring : IsRing c.self.inside.circle.window c.self.inside.closed.last (streams_of (content_of c.self.inside)) c.self.inside.columns (with_ages c.self.inside.rows.places.items c.self.inside.rows.ages.items) c.self.inside.rows.open.items =
    aged_ring c.self.inside.circle.window c.self.inside.closed.last (streams_of (content_of c.self.inside)) c.self.inside.columns c.self.inside.rows.places.items c.self.inside.rows.ages.items c.self.inside.rows.open.items (omega (arith, c.self.invariant.content.window_least)) c.self.invariant.ages
    (record { size = c.self.invariant.size; each = c.self.invariant.each; placed = c.self.invariant.placed; known = c.self.invariant.known; stand = c.self.invariant.stand }) in
    let least : 0 < c.self.inside.circle.window = omega (arith, c.self.invariant.content.window_least) in
    let none : row_at c.args.instant (rows_in (with_ages c.self.inside.rows.places.items c.self.inside.rows.ages.items) c.self.inside.circle.window c.self.inside.rows.open.items) ≡ None =
    met_in c.self.inside.circle.window c.self.inside.closed.last (streams_of (content_of c.self.inside)) c.self.inside.columns c.args.instant (with_ages c.self.inside.rows.places.items c.self.inside.rows.ages.items) c.self.inside.rows.open.items least c.if-instant-self.false ring
    ∙ ap (λ b. cond b (Some (row_in (with_ages c.self.inside.rows.places.items c.self.inside.rows.ages.items) c.self.inside.circle.window c.args.instant)) None) (ne_eqb (row_in (with_ages c.self.inside.rows.places.items c.self.inside.rows.ages.items) c.self.inside.circle.window c.args.instant).instant c.args.instant (λ e. n (sym (ap (λ (row : OpenRowView). row.instant) (aged_row c.self.inside.rows.places.items c.self.inside.rows.ages.items c.self.inside.circle.window c.args.instant least c.self.invariant.size c.self.invariant.ages)) ∙ e))) in
    let room : length (rows_in (with_ages c.self.inside.rows.places.items c.self.inside.rows.ages.items) c.self.inside.circle.window c.self.inside.rows.open.items) < c.self.inside.circle.window =
    has_room c.numbers_rise.ensures (content_of c.self.inside) c.args.instant c.if-instant-self.false near none c.self.invariant.content in
    omega (arith, c.self.invariant.room, length-map c.self.inside.rows.open.items (row_in (with_ages c.self.inside.rows.places.items c.self.inside.rows.ages.items) c.self.inside.circle.window))

pub take-requires-clause-columns : goal.take-requires-clause-columns
take-requires-clause-columns g c k d l =
    let ring : IsRing c.self.inside.circle.window c.self.inside.closed.last (streams_of (content_of c.self.inside)) c.self.inside.columns c.self.inside.rows.places.items c.self.inside.rows.open.items =
    record { size = c.self.invariant.size; each = c.self.invariant.each; placed = c.self.invariant.placed; known = c.self.invariant.known; stand = c.self.invariant.stand } in
    let least : 0 < c.self.inside.circle.window = omega (arith, c.self.invariant.content.window_least) in
    let sized : HasPlaces (streams_of (content_of c.self.inside)) c.self.inside.columns (row_in c.self.inside.rows.places.items c.self.inside.circle.window c.args.instant) =
    sized_in c.self.inside.circle.window c.self.inside.closed.last (streams_of (content_of c.self.inside)) c.self.inside.columns c.args.instant c.self.inside.rows.places.items c.self.inside.rows.open.items least ring in
    let columns : All (λ (cell : ℕ × CellView). cell.0 < c.self.inside.columns) (g.C.Blocks.cells c.args.blocks.now c.args.quality) =
    subst (λ (t : TableView). All (λ (cell : ℕ × CellView). cell.0 < t.content.columns) (g.C.Blocks.cells c.args.blocks.now c.args.quality)) (sym c.self.view_is)
    c.requires.put.columns_exist in
    omega (arith, columns k d l, sized.columns)

pub take-requires-clause-twin : goal.take-requires-clause-twin
take-requires-clause-twin g c =
    let window = c.self.inside.circle.window in
    let places = c.self.inside.rows.places.items in
    let ages = c.self.inside.rows.ages.items in
    let instants = c.self.inside.rows.open.items in
    let least : 0 < window = omega (arith, c.self.invariant.content.window_least) in
    let ring : IsRing window c.self.inside.closed.last (streams_of (content_of c.self.inside)) c.self.inside.columns (with_ages places ages) instants =
    aged_ring window c.self.inside.closed.last (streams_of (content_of c.self.inside)) c.self.inside.columns places ages instants least c.self.invariant.ages
    (record { size = c.self.invariant.size; each = c.self.invariant.each; placed = c.self.invariant.placed; known = c.self.invariant.known; stand = c.self.invariant.stand }) in
    aged_twin (g.C.Blocks.twin c.args.blocks.now) places ages window c.args.instant least c.self.invariant.size c.self.invariant.ages
    (subst (λ (row : Option OpenRowView). IsTwinIn (g.C.Blocks.twin c.args.blocks.now) row)
    (met_in window c.self.inside.closed.last (streams_of (content_of c.self.inside)) c.self.inside.columns c.args.instant (with_ages places ages) instants least c.if-instant-self.false ring)
    (subst (λ (t : TableView). IsTwinIn (g.C.Blocks.twin c.args.blocks.now) (row_at c.args.instant t.content.open_rows)) (sym c.self.view_is) c.requires.twin))

-- the put, as the code makes it

near : (g : given.Over) (c : goal.After-take g) → is_near_all (content_of c.self.inside) c.args.instant ≡ true
near g c =
    ap (list_all (is_near c.self.inside.circle.window c.args.instant)) (sym (ring_held (content_of c.self.inside) (with_ages c.self.inside.rows.places.items c.self.inside.rows.ages.items) c.self.inside.closed.layouts.items c.self.inside.closed.instants.items c.self.inside.rows.open.items c.self.inside.rows.open.items refl (aged_placed c.self.inside.rows.places.items c.self.inside.rows.ages.items c.self.inside.circle.window c.self.inside.closed.instants.items (omega (arith, c.self.invariant.content.window_least)) c.self.invariant.size c.self.invariant.ages c.self.invariant.closed_placed) (aged_placed c.self.inside.rows.places.items c.self.inside.rows.ages.items c.self.inside.circle.window c.self.inside.rows.open.items (omega (arith, c.self.invariant.content.window_least)) c.self.invariant.size c.self.invariant.ages c.self.invariant.placed) refl refl))
    ∙ sym c.if-not-is_in_window.ensures

into : (g : given.Over) (c : goal.After-take g) → IsPutInto c.self.inside.circle.window c.self.inside.closed.last (streams_of (content_of c.self.inside)) c.self.inside.columns c.args.instant c.args.stream (lane_of (content_of c.self.inside) c.args.stream) (g.C.Blocks.cells c.args.blocks.now c.args.quality) c.self.inside.rows.places.items c.self.inside.rows.open.items c.take.result c.take.new.self.places.items c.take.new.self.open.items
into g c = record {
  ring = record { size = c.self.invariant.size; each = c.self.invariant.each; placed = c.self.invariant.placed; known = c.self.invariant.known; stand = c.self.invariant.stand };
  least = omega (arith, c.self.invariant.content.window_least);
  above = c.if-instant-self.false;
  rising = (near_open c.numbers_rise.ensures (content_of c.self.inside) (with_ages c.self.inside.rows.places.items c.self.inside.rows.ages.items) c.self.inside.rows.open.items (aged_placed c.self.inside.rows.places.items c.self.inside.rows.ages.items c.self.inside.circle.window c.self.inside.rows.open.items (omega (arith, c.self.invariant.content.window_least)) c.self.invariant.size c.self.invariant.ages c.self.invariant.placed) c.self.invariant.content).0;
  apart = near_apart c.numbers_rise.ensures c.self.inside.circle.window c.args.instant c.self.inside.closed.instants.items c.self.inside.rows.open.items
      (sym c.if-not-is_in_window.ensures);
  answered = c.take.ensures.answer ∙ ap (λ l. answer_at (met_row c.args.instant (row_in c.self.inside.rows.places.items c.self.inside.circle.window c.args.instant)) c.args.stream l (g.C.Blocks.cells c.args.blocks.now c.args.quality)) c.lane_of-lane.ensures;
  written = c.take.ensures.places
      ∙ ap (λ l. if is_taken c.take.result then set c.self.inside.rows.places.items (c.args.instant % c.self.inside.circle.window) (with_frame c.args.stream l (g.C.Blocks.cells c.args.blocks.now c.args.quality) (base_row c.args.instant (row_in c.self.inside.rows.places.items c.self.inside.circle.window c.args.instant))) else c.self.inside.rows.places.items) c.lane_of-lane.ensures;
  opened = c.take.ensures.open;
}

-- the same of the rows with their ages
aged_into : (g : given.Over) (c : goal.After-take g) → IsPutInto c.self.inside.circle.window c.self.inside.closed.last (streams_of (content_of c.self.inside)) c.self.inside.columns c.args.instant c.args.stream (lane_of (content_of c.self.inside) c.args.stream) (g.C.Blocks.cells c.args.blocks.now c.args.quality) (with_ages c.self.inside.rows.places.items c.self.inside.rows.ages.items) c.self.inside.rows.open.items c.take.result (with_ages c.take.new.self.places.items c.take.new.self.ages.items) c.take.new.self.open.items
aged_into g c =
    let p : IsPutInto c.self.inside.circle.window c.self.inside.closed.last (streams_of (content_of c.self.inside)) c.self.inside.columns c.args.instant c.args.stream (lane_of (content_of c.self.inside) c.args.stream) (g.C.Blocks.cells c.args.blocks.now c.args.quality) c.self.inside.rows.places.items c.self.inside.rows.open.items c.take.result c.take.new.self.places.items c.take.new.self.open.items = into g c in
    record {
      ring = aged_ring c.self.inside.circle.window c.self.inside.closed.last (streams_of (content_of c.self.inside)) c.self.inside.columns c.self.inside.rows.places.items c.self.inside.rows.ages.items c.self.inside.rows.open.items p.least c.self.invariant.ages p.ring;
      least = p.least;
      above = p.above;
      rising = p.rising;
      apart = p.apart;
      answered = p.answered ∙ aged_answer c.self.inside.rows.places.items c.self.inside.rows.ages.items c.self.inside.circle.window c.args.instant c.args.stream (lane_of (content_of c.self.inside) c.args.stream) (g.C.Blocks.cells c.args.blocks.now c.args.quality) p.least c.self.invariant.size c.self.invariant.ages;
      written = aged_put c.self.inside.circle.window c.args.instant c.args.stream (lane_of (content_of c.self.inside) c.args.stream) (g.C.Blocks.cells c.args.blocks.now c.args.quality) c.self.inside.rows.places.items c.take.new.self.places.items c.self.inside.rows.ages.items c.take.new.self.ages.items c.take.result
          p.least c.self.invariant.size c.self.invariant.ages p.answered p.written c.take.ensures.ages;
      opened = p.opened ∙ ap (λ n. if eqb n c.args.instant then c.self.inside.rows.open.items else place c.args.instant c.self.inside.rows.open.items) (sym (ap (λ (row : OpenRowView). row.instant) (aged_row c.self.inside.rows.places.items c.self.inside.rows.ages.items c.self.inside.circle.window c.args.instant p.least c.self.invariant.size c.self.invariant.ages)));
    }

answered : (g : given.Over) (c : goal.After-take g) → c.take.result ≡ put_answer (content_of c.self.inside) c.args.stream c.args.instant (g.C.Blocks.cells c.args.blocks.now c.args.quality)
answered g c =
    let p : IsPutInto c.self.inside.circle.window c.self.inside.closed.last (streams_of (content_of c.self.inside)) c.self.inside.columns c.args.instant c.args.stream (lane_of (content_of c.self.inside) c.args.stream) (g.C.Blocks.cells c.args.blocks.now c.args.quality) (with_ages c.self.inside.rows.places.items c.self.inside.rows.ages.items) c.self.inside.rows.open.items c.take.result (with_ages c.take.new.self.places.items c.take.new.self.ages.items) c.take.new.self.open.items = aged_into g c in
    p.answered
    ∙ ap (λ o. answer_at o c.args.stream (lane_of (content_of c.self.inside) c.args.stream) (g.C.Blocks.cells c.args.blocks.now c.args.quality))
    (sym (met_in c.self.inside.circle.window c.self.inside.closed.last (streams_of (content_of c.self.inside)) c.self.inside.columns c.args.instant (with_ages c.self.inside.rows.places.items c.self.inside.rows.ages.items) c.self.inside.rows.open.items p.least p.above p.ring))
    ∙ sym (put_near (content_of c.self.inside) c.args.stream c.args.instant (g.C.Blocks.cells c.args.blocks.now c.args.quality) c.if-instant-self.false (near g c))

-- the place is that of no closed instant
apart : (g : given.Over) (c : goal.After-take g) → IsApart c.self.inside.circle.window c.args.instant c.self.inside.closed.instants.items
apart g c =
    near_closed c.numbers_rise.ensures (content_of c.self.inside) (with_ages c.self.inside.rows.places.items c.self.inside.rows.ages.items) c.self.inside.closed.layouts.items c.args.instant c.self.inside.closed.instants.items c.self.inside.rows.open.items c.if-instant-self.false (aged_placed c.self.inside.rows.places.items c.self.inside.rows.ages.items c.self.inside.circle.window c.self.inside.closed.instants.items (omega (arith, c.self.invariant.content.window_least)) c.self.invariant.size c.self.invariant.ages c.self.invariant.closed_placed)
    (sym c.if-not-is_in_window.ensures) c.self.invariant.content

written : (g : given.Over) (c : goal.After-take g) → c.take.new.self.places.items ≡ (if is_taken c.take.result
    then set c.self.inside.rows.places.items (c.args.instant % c.self.inside.circle.window) (with_frame c.args.stream (lane_of (content_of c.self.inside) c.args.stream) (g.C.Blocks.cells c.args.blocks.now c.args.quality) (base_row c.args.instant (row_in c.self.inside.rows.places.items c.self.inside.circle.window c.args.instant)))
    else c.self.inside.rows.places.items)
written g c =
    let p : IsPutInto c.self.inside.circle.window c.self.inside.closed.last (streams_of (content_of c.self.inside)) c.self.inside.columns c.args.instant c.args.stream (lane_of (content_of c.self.inside) c.args.stream) (g.C.Blocks.cells c.args.blocks.now c.args.quality) c.self.inside.rows.places.items c.self.inside.rows.open.items c.take.result c.take.new.self.places.items c.take.new.self.open.items = into g c in
    p.written

ages_size : (g : given.Over) (c : goal.After-take g) → length c.take.new.self.ages.items ≡ c.self.inside.circle.window
ages_size g c =
    ap length c.take.ensures.ages ∙ ages_kept (eqb (row_in c.self.inside.rows.places.items c.self.inside.circle.window c.args.instant).instant c.args.instant) c.self.inside.rows.ages.items (c.args.instant % c.self.inside.circle.window) ∙ c.self.invariant.ages

kept : (g : given.Over) (c : goal.After-take g) → IsRing c.self.inside.circle.window c.self.inside.closed.last (streams_of (content_of c.self.inside)) c.self.inside.columns c.take.new.self.places.items c.take.new.self.open.items
kept g c =
    put_kept c.numbers_rise.ensures c.self.inside.circle.window c.self.inside.closed.last (streams_of (content_of c.self.inside)) c.self.inside.columns c.args.instant c.args.stream (lane_of (content_of c.self.inside) c.args.stream) (g.C.Blocks.cells c.args.blocks.now c.args.quality) c.self.inside.rows.places.items c.self.inside.rows.open.items c.take.result c.take.new.self.places.items c.take.new.self.open.items (into g c)

size : (g : given.Over) (c : goal.After-take g) → length c.take.new.self.places.items ≡ c.self.inside.circle.window
size g c =
    let ring : IsRing c.self.inside.circle.window c.self.inside.closed.last (streams_of (content_of c.self.inside)) c.self.inside.columns c.take.new.self.places.items c.take.new.self.open.items = kept g c in
    ring.size

closed : (g : given.Over) (c : goal.After-take g) → closed_rows (with_ages c.take.new.self.places.items c.take.new.self.ages.items) c.self.inside.closed.layouts.items c.self.inside.circle.window c.self.inside.closed.instants.items ≡ closed_rows (with_ages c.self.inside.rows.places.items c.self.inside.rows.ages.items) c.self.inside.closed.layouts.items c.self.inside.circle.window c.self.inside.closed.instants.items
closed g c =
    aged_closed c.take.new.self.places.items c.take.new.self.ages.items c.self.inside.closed.layouts.items c.self.inside.circle.window c.self.inside.closed.instants.items (omega (arith, c.self.invariant.content.window_least)) (size g c) (ages_size g c)
    ∙ ap (λ ps. closed_rows ps c.self.inside.closed.layouts.items c.self.inside.circle.window c.self.inside.closed.instants.items) (written g c)
    ∙ written_closed c.self.inside.rows.places.items c.self.inside.closed.layouts.items c.self.inside.circle.window c.args.instant
    (with_frame c.args.stream (lane_of (content_of c.self.inside) c.args.stream) (g.C.Blocks.cells c.args.blocks.now c.args.quality) (base_row c.args.instant (row_in c.self.inside.rows.places.items c.self.inside.circle.window c.args.instant)))
    c.self.inside.closed.instants.items (is_taken c.take.result) (apart g c)
    ∙ sym (aged_closed c.self.inside.rows.places.items c.self.inside.rows.ages.items c.self.inside.closed.layouts.items c.self.inside.circle.window c.self.inside.closed.instants.items (omega (arith, c.self.invariant.content.window_least)) c.self.invariant.size c.self.invariant.ages)

stands : (g : given.Over) (c : goal.After-take g) → ArePlaced c.take.new.self.places.items c.self.inside.circle.window c.self.inside.closed.instants.items
stands g c =
    subst (λ ps. ArePlaced ps c.self.inside.circle.window c.self.inside.closed.instants.items) (sym (written g c))
    (written_placed c.self.inside.rows.places.items c.self.inside.circle.window c.args.instant
    (with_frame c.args.stream (lane_of (content_of c.self.inside) c.args.stream) (g.C.Blocks.cells c.args.blocks.now c.args.quality) (base_row c.args.instant (row_in c.self.inside.rows.places.items c.self.inside.circle.window c.args.instant)))
    c.self.inside.closed.instants.items (is_taken c.take.result) (apart g c) c.self.invariant.closed_placed)

rows : (g : given.Over) (c : goal.After-take g) → rows_in (with_ages c.take.new.self.places.items c.take.new.self.ages.items) c.self.inside.circle.window c.take.new.self.open.items ≡ (if is_taken c.take.result
    then with_row (with_frame c.args.stream (lane_of (content_of c.self.inside) c.args.stream) (g.C.Blocks.cells c.args.blocks.now c.args.quality)) (fresh_row (content_of c.self.inside) c.args.instant) (rows_in (with_ages c.self.inside.rows.places.items c.self.inside.rows.ages.items) c.self.inside.circle.window c.self.inside.rows.open.items)
    else rows_in (with_ages c.self.inside.rows.places.items c.self.inside.rows.ages.items) c.self.inside.circle.window c.self.inside.rows.open.items)
rows g c =
    put_rows c.numbers_rise.ensures c.self.inside.circle.window c.self.inside.closed.last (streams_of (content_of c.self.inside)) c.self.inside.columns c.args.instant c.args.stream (lane_of (content_of c.self.inside) c.args.stream) (g.C.Blocks.cells c.args.blocks.now c.args.quality) (with_ages c.self.inside.rows.places.items c.self.inside.rows.ages.items) c.self.inside.rows.open.items c.take.result (with_ages c.take.new.self.places.items c.take.new.self.ages.items) c.take.new.self.open.items (aged_into g c)

pub returns-clause-answer : goal.returns-clause-answer
returns-clause-answer g c = answered g c ∙ ap (λ (t : TableView). put_answer t.content c.args.stream c.args.instant (g.C.Blocks.cells c.args.blocks.now c.args.quality)) c.self.view_is

pub returns-clause-content : goal.returns-clause-content
returns-clause-content g c =
    ap (λ rs. record (content_of c.self.inside) { open_rows = rows_in (with_ages c.take.new.self.places.items c.take.new.self.ages.items) c.self.inside.circle.window c.take.new.self.open.items; closed = rs }) (closed g c)
    ∙ ap (λ rs. record (content_of c.self.inside) { open_rows = rs }) (rows g c)
    ∙ put_content (is_taken c.take.result) (content_of c.self.inside) (with_row (with_frame c.args.stream (lane_of (content_of c.self.inside) c.args.stream) (g.C.Blocks.cells c.args.blocks.now c.args.quality)) (fresh_row (content_of c.self.inside) c.args.instant) (rows_in (with_ages c.self.inside.rows.places.items c.self.inside.rows.ages.items) c.self.inside.circle.window c.self.inside.rows.open.items))
    ∙ ap (λ a. if is_taken a then after_take (content_of c.self.inside) c.args.stream c.args.instant (g.C.Blocks.cells c.args.blocks.now c.args.quality) else content_of c.self.inside) (answered g c)
    ∙ ap (λ (t : TableView). after_put t.content c.args.stream c.args.instant (g.C.Blocks.cells c.args.blocks.now c.args.quality)) c.self.view_is

pub returns-clause-well_formed : goal.returns-clause-well_formed
returns-clause-well_formed g c =
    rw (rows g c, closed g c) (keeps-offered c.numbers_rise.ensures (content_of c.self.inside) (is_taken c.take.result) c.args.stream (lane_of (content_of c.self.inside) c.args.stream) c.args.instant (g.C.Blocks.cells c.args.blocks.now c.args.quality) c.if-instant-self.false (near g c) c.self.invariant.content)

pub invariant_of-self : goal.invariant_of-self
invariant_of-self g c =
    let ring : IsRing c.self.inside.circle.window c.self.inside.closed.last (streams_of (content_of c.self.inside)) c.self.inside.columns c.take.new.self.places.items c.take.new.self.open.items =
    put_kept c.numbers_rise.ensures c.self.inside.circle.window c.self.inside.closed.last (streams_of (content_of c.self.inside)) c.self.inside.columns c.args.instant c.args.stream (lane_of (content_of c.self.inside) c.args.stream) (g.C.Blocks.cells c.args.blocks.now c.args.quality) c.self.inside.rows.places.items c.self.inside.rows.open.items c.take.result c.take.new.self.places.items c.take.new.self.open.items (into g c) in
    record {
      content = rw (rows g c, closed g c) (keeps-offered c.numbers_rise.ensures (content_of c.self.inside) (is_taken c.take.result) c.args.stream (lane_of (content_of c.self.inside) c.args.stream) c.args.instant (g.C.Blocks.cells c.args.blocks.now c.args.quality) c.if-instant-self.false (near g c) c.self.invariant.content);
      size = ring.size;
      each = ring.each;
      placed = ring.placed;
      ages = ages_size g c;
      layouts = c.self.invariant.layouts;
      closed_placed = stands g c;
      known = ring.known;
      stand = ring.stand;
      room = rw c.take.ensures.open_capacity c.self.invariant.room;
      closed_room = c.self.invariant.closed_room;
    }
