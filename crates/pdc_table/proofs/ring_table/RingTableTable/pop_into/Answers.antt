use Rattle.std.proofs.Common.{◌≡◌, ◌∙◌, List, ap, arith, drop, refl, sym, take}
use Rattle.std.specs.List.{slice_get}
use Rattle.pdc_open_row.specs.Views.{spent}
use Rattle.pdc_open_row.specs.pdc_row.RowView.{RowView}
use Rattle.pdc_table.specs.Content.{streams_of}
use Rattle.pdc_table.specs.Ring.{content_of}
use Rattle.pdc_table.specs.RingRows.{changed, closed_rows, rows_in, with_ages}
use Rattle.pdc_table.specs.Steps.{after_pop, pop_answer}
use Rattle.pdc_table.specs.TableView.{TableView}
use Rattle.pdc_table.proofs.Keeps.{keeps-pop}
use Rattle.pdc_table.proofs.RingAges.{aged_changed, aged_closed, aged_placed}
use Rattle.pdc_table.proofs.RingClosed.{placed-less}
use Rattle.pdc_table.proofs.RingKept.{IsRing, ring_changed}
use Rattle.pdc_table.proofs.RingPopped.{closed_left, open_left, places-spent}
use Rattle.pdc_table.proofs.RingRows.{ArePlaced, changed-placed}
use Rattle.pdc_table.proofs.ring_table.RingTableTable.pop_into.Goals as goal

-- the rows with their ages
now : (c : goal.After-pop_into) → with_ages c.pop_into.new.places.items c.self.inside.rows.ages.items ≡ changed spent c.self.inside.circle.window (take 1 c.self.inside.closed.instants.items) (with_ages c.self.inside.rows.places.items c.self.inside.rows.ages.items)
now c =
    ap (λ ps. with_ages ps c.self.inside.rows.ages.items) c.pop_into.ensures.places
    ∙ aged_changed spent (λ a r. refl) c.self.inside.circle.window (take 1 c.self.inside.closed.instants.items) c.self.inside.rows.places.items c.self.inside.rows.ages.items (omega (arith, c.self.invariant.content.window_least)) c.self.invariant.size c.self.invariant.ages

closed_placed : (c : goal.After-pop_into) → ArePlaced (with_ages c.self.inside.rows.places.items c.self.inside.rows.ages.items) c.self.inside.circle.window c.self.inside.closed.instants.items
closed_placed c = aged_placed c.self.inside.rows.places.items c.self.inside.rows.ages.items c.self.inside.circle.window c.self.inside.closed.instants.items (omega (arith, c.self.invariant.content.window_least)) c.self.invariant.size c.self.invariant.ages c.self.invariant.closed_placed

open_placed : (c : goal.After-pop_into) → ArePlaced (with_ages c.self.inside.rows.places.items c.self.inside.rows.ages.items) c.self.inside.circle.window c.self.inside.rows.open.items
open_placed c = aged_placed c.self.inside.rows.places.items c.self.inside.rows.ages.items c.self.inside.circle.window c.self.inside.rows.open.items (omega (arith, c.self.invariant.content.window_least)) c.self.invariant.size c.self.invariant.ages c.self.invariant.placed

-- the open rows, and the closed ones without the first
rows : (c : goal.After-pop_into) → rows_in (with_ages c.pop_into.new.places.items c.self.inside.rows.ages.items) c.self.inside.circle.window c.self.inside.rows.open.items ≡ rows_in (with_ages c.self.inside.rows.places.items c.self.inside.rows.ages.items) c.self.inside.circle.window c.self.inside.rows.open.items
rows c =
    open_left spent (content_of c.self.inside) (with_ages c.self.inside.rows.places.items c.self.inside.rows.ages.items) (with_ages c.pop_into.new.places.items c.self.inside.rows.ages.items) c.self.inside.closed.layouts.items c.self.inside.closed.instants.items c.self.inside.rows.open.items
    (now c) (closed_placed c) (open_placed c) c.self.invariant.content

rest : (c : goal.After-pop_into) → closed_rows (with_ages c.pop_into.new.places.items c.self.inside.rows.ages.items) c.self.inside.closed.layouts.items c.self.inside.circle.window c.pop_into.new.closed.items ≡ drop 1 (closed_rows (with_ages c.self.inside.rows.places.items c.self.inside.rows.ages.items) c.self.inside.closed.layouts.items c.self.inside.circle.window c.self.inside.closed.instants.items)
rest c =
    closed_left spent (content_of c.self.inside) (with_ages c.self.inside.rows.places.items c.self.inside.rows.ages.items) (with_ages c.pop_into.new.places.items c.self.inside.rows.ages.items) c.self.inside.closed.layouts.items c.self.inside.closed.instants.items c.self.inside.rows.open.items c.pop_into.new.closed.items
    (now c) c.pop_into.ensures.rest (closed_placed c) (open_placed c) c.self.invariant.content

ring : (c : goal.After-pop_into) → IsRing c.self.inside.circle.window c.self.inside.closed.last (streams_of (content_of c.self.inside)) c.self.inside.columns c.pop_into.new.places.items c.self.inside.rows.open.items
ring c =
    rw c.pop_into.ensures.places (ring_changed spent (λ r. refl) c.self.inside.circle.window c.self.inside.closed.last (streams_of (content_of c.self.inside)) c.self.inside.columns (places-spent (streams_of (content_of c.self.inside)) c.self.inside.columns)
    c.self.inside.rows.places.items c.self.inside.rows.open.items (take 1 c.self.inside.closed.instants.items) (omega (arith, c.self.invariant.content.window_least))
    (record { size = c.self.invariant.size; each = c.self.invariant.each; placed = c.self.invariant.placed; known = c.self.invariant.known; stand = c.self.invariant.stand }))

pub invariant_of-self : goal.invariant_of-self
invariant_of-self c =
    let kept : IsRing c.self.inside.circle.window c.self.inside.closed.last (streams_of (content_of c.self.inside)) c.self.inside.columns c.pop_into.new.places.items c.self.inside.rows.open.items = ring c in
    record {
      content = rw (rows c, rest c) (keeps-pop c.numbers_rise.ensures (content_of c.self.inside) c.self.invariant.content);
      size = kept.size;
      each = kept.each;
      placed = kept.placed;
      ages = c.self.invariant.ages;
      layouts = c.self.invariant.layouts;
      closed_placed = rw (c.pop_into.ensures.places, c.pop_into.ensures.rest) (changed-placed spent (λ r. refl) c.self.inside.circle.window (take 1 c.self.inside.closed.instants.items) c.self.inside.rows.places.items (omega (arith, c.self.invariant.content.window_least)) c.self.invariant.size
          (drop 1 c.self.inside.closed.instants.items) (placed-less c.self.inside.rows.places.items c.self.inside.circle.window c.self.inside.closed.instants.items c.self.invariant.closed_placed));
      known = kept.known;
      stand = kept.stand;
      room = c.self.invariant.room;
      closed_room = rw c.pop_into.ensures.capacity c.self.invariant.closed_room;
    }

pub returns-clause-answer : goal.returns-clause-answer
returns-clause-answer c =
    c.pop_into.ensures.row
    ∙ ap (λ (rows : List RowView). slice_get rows 0) (ap (λ ls. closed_rows c.self.inside.rows.places.items ls c.self.inside.circle.window c.self.inside.closed.instants.items) c.as_slice.ensures.value
    ∙ sym (aged_closed c.self.inside.rows.places.items c.self.inside.rows.ages.items c.self.inside.closed.layouts.items c.self.inside.circle.window c.self.inside.closed.instants.items (omega (arith, c.self.invariant.content.window_least)) c.self.invariant.size c.self.invariant.ages))
    ∙ ap (λ (t : TableView). pop_answer t.content) c.self.view_is

pub returns-clause-content : goal.returns-clause-content
returns-clause-content c =
    ap (λ rs. record (content_of c.self.inside) { open_rows = rows_in (with_ages c.pop_into.new.places.items c.self.inside.rows.ages.items) c.self.inside.circle.window c.self.inside.rows.open.items; closed = rs }) (rest c)
    ∙ ap (λ rs. record (content_of c.self.inside) { open_rows = rs; closed = drop 1 (content_of c.self.inside).closed }) (rows c) ∙ ap (λ (t : TableView). after_pop t.content) c.self.view_is

pub returns-clause-well_formed : goal.returns-clause-well_formed
returns-clause-well_formed c = rw (rows c, rest c) (keeps-pop c.numbers_rise.ensures (content_of c.self.inside) c.self.invariant.content)
