use Rattle.std.proofs.Common.{rules, arith, refl, ◌≡◌, ◌≤◌, ◌+◌, ◌∙◌, ap, length, map, vec_len}
use Rattle.std.proofs.lemmas.List.{length-map}
use Rattle.pdc_table.specs.Closing.{aged, closing}
use Rattle.pdc_row.specs.RowView.{row_view}
use Rattle.pdc_table.specs.pdc_columns.Layout.{layout_view}
use Rattle.try_script.specs.SortedTable.{content_of}
use Rattle.pdc_table.specs.Steps.{closing_of}
use Rattle.pdc_table.proofs.Keeps.{aged_rise, closed_shapes, closing_few, held_fit, keeps-tick}
use Rattle.try_script.proofs.Free.{count_after_tick, each_after_tick}
use Rattle.try_script.proofs.sorted_table.SortedTableTable.tick.Goals as goal

pub close_due-requires-clause-rising : goal.close_due-requires-clause-rising
close_due-requires-clause-rising c = rw c.grow_older.ensures.items (aged_rise (content_of c.self.inside) c.self.invariant.content.open_above)

pub close_due-requires-clause-room : goal.close_due-requires-clause-room
close_due-requires-clause-room c =
    let fit : length (map row_view c.self.inside.closed.items) + length c.self.inside.rows.items ≤ c.self.inside.window = held_fit c.numbers_rise.ensures (content_of c.self.inside) c.self.invariant.content in
    let grown : length c.grow_older.new.rows.items ≡ length c.self.inside.rows.items = ap length c.grow_older.ensures.items ∙ length-map c.self.inside.rows.items aged in
    let rows : vec_len c.grow_older.new.rows ≡ length c.grow_older.new.rows.items = search rules in
    let closed : length c.self.inside.closed.items ≡ length c.self.inside.closed.items = refl in
    omega (arith, c.self.invariant.closed_room, length-map c.self.inside.closed.items row_view)

pub close_due-requires-clause-free_room : goal.close_due-requires-clause-free_room
close_due-requires-clause-free_room c =
    let grown : length c.grow_older.new.rows.items ≡ length c.self.inside.rows.items = ap length c.grow_older.ensures.items ∙ length-map c.self.inside.rows.items aged in
    let rows : vec_len c.grow_older.new.rows ≡ length c.grow_older.new.rows.items = search rules in
    omega (arith, c.self.invariant.free_room, c.self.invariant.rows)

pub overflow_cast-result : goal.overflow_cast-result
overflow_cast-result c =
    let few : length (closing_of (content_of c.self.inside) c.args.rule) ≤ c.self.inside.window = closing_few c.numbers_rise.ensures (content_of c.self.inside) c.args.rule c.self.invariant.content in
    let is : c.close_due.result ≡ length (closing_of (content_of c.self.inside) c.args.rule) = c.close_due.ensures.answer
    ∙ ap (λ rs. length (closing rs c.args.rule c.grow_older.new.rows.items)) c.as_slice-required.ensures.value
    ∙ ap (λ rows. length (closing c.self.inside.required.items c.args.rule rows)) c.grow_older.ensures.items in
    omega (arith, c.self.invariant.content.window_most)

pub invariant_of-self : goal.invariant_of-self
invariant_of-self c = record {
  content = rw (c.close_due.ensures.rows, c.close_due.ensures.closed, c.close_due.ensures.last, c.as_slice-required.ensures.value, c.grow_older.ensures.items) (keeps-tick c.numbers_rise.ensures (content_of c.self.inside) c.args.rule (layout_view c.args.layout.now) c.self.invariant.content);
  room = rw (c.close_due.ensures.capacity, c.grow_older.ensures.capacity) c.self.invariant.room;
  rows = rw (c.close_due.ensures.rows, c.close_due.ensures.free, c.as_slice-required.ensures.value, c.grow_older.ensures.items) (count_after_tick (content_of c.self.inside) c.args.rule c.self.inside.free.items c.self.invariant.content.open_above ∙ c.self.invariant.rows);
  free_each = rw (c.close_due.ensures.free, c.as_slice-required.ensures.value, c.grow_older.ensures.items) (each_after_tick (content_of c.self.inside) c.args.rule c.self.inside.free.items c.self.invariant.free_each c.self.invariant.content);
  free_room = rw c.close_due.ensures.free_capacity c.self.invariant.free_room;
  closed_room = rw c.close_due.ensures.closed_capacity c.self.invariant.closed_room;
}

pub returns-clause-shapes : goal.returns-clause-shapes
returns-clause-shapes c h = closed_shapes c.args.self.now.content c.args.rule (layout_view c.args.layout.now) h

pub returns-clause-well_formed : goal.returns-clause-well_formed
returns-clause-well_formed c = rw (c.close_due.ensures.rows, c.close_due.ensures.closed, c.close_due.ensures.last, c.as_slice-required.ensures.value, c.grow_older.ensures.items) (keeps-tick c.numbers_rise.ensures (content_of c.self.inside) c.args.rule (layout_view c.args.layout.now) c.self.invariant.content)
