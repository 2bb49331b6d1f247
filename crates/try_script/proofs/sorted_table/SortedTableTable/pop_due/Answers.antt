use Rattle.std.proofs.Common.{◌≡◌, ◌∙◌, ap, sym, map, drop}
use Rattle.std.proofs.lemmas.List.{drop-map}
use Rattle.pdc_row.specs.RowView.{row_view}
use Rattle.try_script.specs.SortedTable.{content_of}
use Rattle.pdc_table.specs.Steps.{after_pop}
use Rattle.pdc_table.specs.TableView.{TableView}
use Rattle.pdc_table.proofs.Keeps.{keeps-pop}
use Rattle.try_script.proofs.sorted_table.SortedTableTable.pop_due.Goals as goal

pub invariant_of-self : goal.invariant_of-self
invariant_of-self c =
    let e : map row_view c.pop_front.new.self.items ≡ drop 1 (map row_view c.self.inside.closed.items) = ap (map row_view) c.pop_front.ensures.rest ∙ sym (drop-map row_view 1 c.self.inside.closed.items) in
    record {
      content = rw e (keeps-pop c.numbers_rise.ensures (content_of c.self.inside) c.self.invariant.content);
      room = c.self.invariant.room;
      rows = c.self.invariant.rows;
      free_each = c.self.invariant.free_each;
      free_room = c.self.invariant.free_room;
      closed_room = rw c.pop_front.ensures.capacity c.self.invariant.closed_room;
    }

pub returns-clause-well_formed : goal.returns-clause-well_formed
returns-clause-well_formed c =
    let e : map row_view c.pop_front.new.self.items ≡ drop 1 (map row_view c.self.inside.closed.items) = ap (map row_view) c.pop_front.ensures.rest ∙ sym (drop-map row_view 1 c.self.inside.closed.items) in
    rw e (keeps-pop c.numbers_rise.ensures (content_of c.self.inside) c.self.invariant.content)

pub returns-clause-content : goal.returns-clause-content
returns-clause-content c =
    let e : map row_view c.pop_front.new.self.items ≡ drop 1 (map row_view c.self.inside.closed.items) = ap (map row_view) c.pop_front.ensures.rest ∙ sym (drop-map row_view 1 c.self.inside.closed.items) in
    ap (λ rows. record (content_of c.self.inside) { closed = rows }) e ∙ ap (λ (v : TableView). after_pop v.content) c.self.view_is
