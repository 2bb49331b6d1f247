use Rattle.std.proofs.Common.{arith, ◌≡◌, ap, map, refl, ◌∙◌}
use Rattle.pdc_table.specs.Content.{streams_of}
use Rattle.pdc_table.specs.Ring.{content_of}
use Rattle.pdc_table.specs.RingRows.{changed, closed_rows, rows_in, with_ages}
use Rattle.pdc_table.specs.Steps.{after_drop_stream}
use Rattle.pdc_table.specs.TableView.{TableView}
use Rattle.pdc_open_row.specs.Taking.{without_stream}
use Rattle.pdc_table.proofs.Keeps.{keeps-drop_stream, places-without_stream}
use Rattle.pdc_table.proofs.RingAges.{aged_changed, aged_length, aged_placed, kept_by}
use Rattle.pdc_table.proofs.RingClosed.{changed_stand, open_changed}
use Rattle.pdc_table.proofs.RingKept.{IsRing}
use Rattle.pdc_table.proofs.RingRows.{changed-open}
use Rattle.pdc_table.proofs.ring_table.RingTableTable.drop_stream.Goals as goal

-- the rows with their ages
now : (c : goal.After-drop_stream) → (with_ages c.drop_stream.new.places.items c.self.inside.rows.ages.items) ≡ changed (without_stream c.self.inside.lanes c.args.stream) c.self.inside.circle.window c.as_slice.result.now (with_ages c.self.inside.rows.places.items c.self.inside.rows.ages.items)
now c =
    ap (λ ps. with_ages ps c.self.inside.rows.ages.items) c.drop_stream.ensures.items
    ∙ aged_changed (without_stream c.self.inside.lanes c.args.stream) (λ a r. refl) c.self.inside.circle.window c.as_slice.result.now c.self.inside.rows.places.items c.self.inside.rows.ages.items (omega (arith, c.self.invariant.content.window_least)) c.self.invariant.size c.self.invariant.ages

rows : (c : goal.After-drop_stream) → rows_in (with_ages c.drop_stream.new.places.items c.self.inside.rows.ages.items) c.self.inside.circle.window c.self.inside.rows.open.items ≡ map (without_stream c.self.inside.lanes c.args.stream) (rows_in (with_ages c.self.inside.rows.places.items c.self.inside.rows.ages.items) c.self.inside.circle.window c.self.inside.rows.open.items)
rows c =
    changed-open c.numbers_rise.ensures (without_stream c.self.inside.lanes c.args.stream) (content_of c.self.inside) (with_ages c.self.inside.rows.places.items c.self.inside.rows.ages.items) (with_ages c.drop_stream.new.places.items c.self.inside.rows.ages.items) c.self.inside.rows.open.items c.as_slice.result.now
    c.as_slice.ensures.value (now c) (aged_length c.self.inside.rows.places.items c.self.inside.rows.ages.items c.self.inside.circle.window c.self.invariant.size c.self.invariant.ages) (aged_placed c.self.inside.rows.places.items c.self.inside.rows.ages.items c.self.inside.circle.window c.self.inside.rows.open.items (omega (arith, c.self.invariant.content.window_least)) c.self.invariant.size c.self.invariant.ages c.self.invariant.placed) c.self.invariant.content

-- the closed rows stay
closed : (c : goal.After-drop_stream) → closed_rows (with_ages c.drop_stream.new.places.items c.self.inside.rows.ages.items) c.self.inside.closed.layouts.items c.self.inside.circle.window c.self.inside.closed.instants.items ≡ closed_rows (with_ages c.self.inside.rows.places.items c.self.inside.rows.ages.items) c.self.inside.closed.layouts.items c.self.inside.circle.window c.self.inside.closed.instants.items
closed c =
    open_changed c.numbers_rise.ensures (without_stream c.self.inside.lanes c.args.stream) (content_of c.self.inside) (with_ages c.self.inside.rows.places.items c.self.inside.rows.ages.items) (with_ages c.drop_stream.new.places.items c.self.inside.rows.ages.items) c.self.inside.closed.layouts.items c.self.inside.closed.instants.items c.self.inside.rows.open.items c.as_slice.result.now
    c.as_slice.ensures.value (now c) (aged_placed c.self.inside.rows.places.items c.self.inside.rows.ages.items c.self.inside.circle.window c.self.inside.closed.instants.items (omega (arith, c.self.invariant.content.window_least)) c.self.invariant.size c.self.invariant.ages c.self.invariant.closed_placed) (aged_placed c.self.inside.rows.places.items c.self.inside.rows.ages.items c.self.inside.circle.window c.self.inside.rows.open.items (omega (arith, c.self.invariant.content.window_least)) c.self.invariant.size c.self.invariant.ages c.self.invariant.placed) c.self.invariant.content

pub invariant_of-self : goal.invariant_of-self
invariant_of-self c =
    let ring : IsRing c.self.inside.circle.window c.self.inside.closed.last (streams_of (content_of c.self.inside)) c.self.inside.columns c.drop_stream.new.places.items c.self.inside.rows.open.items =
    kept_by (without_stream c.self.inside.lanes c.args.stream) (λ r. refl) c.self.inside.circle.window c.self.inside.closed.last (streams_of (content_of c.self.inside)) c.self.inside.columns (λ r. places-without_stream c.self.inside.lanes c.args.stream (streams_of (content_of c.self.inside)) c.self.inside.columns r)
    c.self.inside.rows.places.items c.drop_stream.new.places.items c.self.inside.rows.open.items c.as_slice.result.now (omega (arith, c.self.invariant.content.window_least)) c.as_slice.ensures.value c.drop_stream.ensures.items
    (record { size = c.self.invariant.size; each = c.self.invariant.each; placed = c.self.invariant.placed; known = c.self.invariant.known; stand = c.self.invariant.stand }) in
    record {
      content = rw (rows c, closed c) (keeps-drop_stream (content_of c.self.inside) c.args.stream c.self.invariant.content);
      size = ring.size;
      each = ring.each;
      placed = ring.placed;
      ages = c.self.invariant.ages;
      layouts = c.self.invariant.layouts;
      closed_placed = changed_stand (without_stream c.self.inside.lanes c.args.stream) (λ r. refl) (content_of c.self.inside) c.self.inside.rows.places.items c.drop_stream.new.places.items c.self.inside.closed.instants.items c.self.inside.rows.open.items c.as_slice.result.now
          c.as_slice.ensures.value c.drop_stream.ensures.items c.self.invariant.size c.self.invariant.closed_placed c.self.invariant.content;
      known = ring.known;
      stand = ring.stand;
      room = c.self.invariant.room;
      closed_room = c.self.invariant.closed_room;
    }

pub returns-clause-content : goal.returns-clause-content
returns-clause-content c =
    ap (λ rs. record (content_of c.self.inside) { open_rows = rows_in (with_ages c.drop_stream.new.places.items c.self.inside.rows.ages.items) c.self.inside.circle.window c.self.inside.rows.open.items; closed = rs }) (closed c)
    ∙ ap (λ rs. record (content_of c.self.inside) { open_rows = rs }) (rows c) ∙ ap (λ (t : TableView). after_drop_stream t.content c.args.stream) c.self.view_is

pub returns-clause-well_formed : goal.returns-clause-well_formed
returns-clause-well_formed c = rw (rows c, closed c) (keeps-drop_stream (content_of c.self.inside) c.args.stream c.self.invariant.content)
