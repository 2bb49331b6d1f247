use Rattle.std.proofs.Common.{arith, ◌≡◌, ◌<◌, ◌∙◌, ℕ, subst, sym, true, length}
use Rattle.std.specs.List.{All, AllByRecursion}
use Rattle.pdc_table.specs.Content.{HasPlaces, streams_of}
use Rattle.try_script.specs.SortedTable.{content_of}
use Rattle.pdc_table.specs.Placing.{row_at}
use Rattle.pdc_table.specs.OpenInstants.{instants_of}
use Rattle.pdc_table.specs.Steps.{is_near_all}
use Rattle.pdc_table.specs.pdc_columns.Taking.{cells_in}
use Rattle.pdc_table.specs.pdc_open_row.Taking.{answer_at, is_taken}
use Rattle.pdc_table.specs.TableView.{TableView}
use Rattle.pdc_table.proofs.pdc_columns.Exist.{columns_exist}
use Rattle.pdc_table.proofs.Keeps.{has_room, keeps-offered}
use Rattle.try_script.proofs.sorted_table.SortedTable.offer.Goals as goal

pub take-requires-clause-rising : goal.take-requires-clause-rising
take-requires-clause-rising g c = c.numbers_rise.ensures.rises_above 0 c.self.inside.last (instants_of c.self.inside.rows.items) (omega arith) c.self.invariant.content.open_above

pub take-requires-clause-room : goal.take-requires-clause-room
take-requires-clause-room g c none =
    let near : is_near_all (content_of c.self.inside) c.args.instant ≡ true = rw c.deref.ensures.value at (sym c.if-not-are_near.ensures) in
    let room : length c.self.inside.rows.items < c.self.inside.window = has_room c.numbers_rise.ensures (content_of c.self.inside) c.args.instant c.if-instant-self.false near none c.self.invariant.content in
    omega (arith, c.self.invariant.room, room)

pub take-requires-clause-free_one : goal.take-requires-clause-free_one
take-requires-clause-free_one g c none =
    let near : is_near_all (content_of c.self.inside) c.args.instant ≡ true = rw c.deref.ensures.value at (sym c.if-not-are_near.ensures) in
    let room : length c.self.inside.rows.items < c.self.inside.window = has_room c.numbers_rise.ensures (content_of c.self.inside) c.args.instant c.if-instant-self.false near none c.self.invariant.content in
    omega (arith, c.self.invariant.rows, room)

pub take-requires-clause-columns : goal.take-requires-clause-columns
take-requires-clause-columns g c =
    subst (λ (t : TableView). All (λ (cell : ℕ × g.row.B.Denot). cell.0 < t.content.columns) c.args.cells.now) (sym c.self.view_is)
    (columns_exist g.B.Offered.view c.args.self.now.content.columns c.args.quality c.args.cells.now c.requires.columns_exist)

pub invariant_of-self : goal.invariant_of-self
invariant_of-self g c =
    let near : is_near_all (content_of c.self.inside) c.args.instant ≡ true = rw c.deref.ensures.value at (sym c.if-not-are_near.ensures) in
    let streams : c.len.result ≡ streams_of (content_of c.self.inside) = c.len.ensures.value ∙ c.self.invariant.content.required_each in
    record {
      content = rw (c.take.ensures.items, streams) (keeps-offered c.numbers_rise.ensures (content_of c.self.inside) (is_taken (answer_at (row_at c.args.instant c.self.inside.rows.items) c.args.stream c.lane_of-lane.result (cells_in g.B.Offered.view c.args.cells.now c.args.quality))) c.args.stream c.lane_of-lane.result c.args.instant (cells_in g.B.Offered.view c.args.cells.now c.args.quality) c.if-instant-self.false near c.self.invariant.content);
      room = omega (arith, c.self.invariant.room, c.take.ensures.capacity);
      rows = c.take.ensures.count ∙ c.self.invariant.rows;
      free_each = subst (λ n. AllByRecursion (HasPlaces n c.self.inside.columns) c.take.new.free.items) streams c.take.ensures.free_each;
      free_room = omega (arith, c.self.invariant.free_room, c.take.ensures.free_capacity);
      closed_room = c.self.invariant.closed_room;
    }

pub returns-clause-well_formed : goal.returns-clause-well_formed
returns-clause-well_formed g c =
    let near : is_near_all (content_of c.self.inside) c.args.instant ≡ true = rw c.deref.ensures.value at (sym c.if-not-are_near.ensures) in
    let streams : c.len.result ≡ streams_of (content_of c.self.inside) = c.len.ensures.value ∙ c.self.invariant.content.required_each in
    rw (c.take.ensures.items, streams) (keeps-offered c.numbers_rise.ensures (content_of c.self.inside) (is_taken (answer_at (row_at c.args.instant c.self.inside.rows.items) c.args.stream c.lane_of-lane.result (cells_in g.B.Offered.view c.args.cells.now c.args.quality))) c.args.stream c.lane_of-lane.result c.args.instant (cells_in g.B.Offered.view c.args.cells.now c.args.quality) c.if-instant-self.false near c.self.invariant.content)
