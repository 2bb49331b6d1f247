use Rattle.std.proofs.Common.{arith, ap, length}
use Rattle.std.proofs.lemmas.List.{length-map}
use Rattle.try_script.specs.SortedTable.{content_of}
use Rattle.pdc_table.specs.pdc_open_row.Taking.{without_stream}
use Rattle.pdc_table.proofs.Keeps.{keeps-drop_stream}
use Rattle.try_script.proofs.sorted_table.SortedTableTable.drop_stream.Goals as goal

pub invariant_of-self : goal.invariant_of-self
invariant_of-self c = record {
  content = rw c.drop_stream.ensures.items (keeps-drop_stream (content_of c.self.inside) c.args.stream c.self.invariant.content);
  room = rw c.drop_stream.ensures.capacity c.self.invariant.room;
  rows = omega (arith, ap length c.drop_stream.ensures.items, length-map c.self.inside.rows.items (without_stream c.self.inside.lanes c.args.stream), c.self.invariant.rows);
  free_each = c.self.invariant.free_each;
  free_room = c.self.invariant.free_room;
  closed_room = c.self.invariant.closed_room;
}

pub returns-clause-well_formed : goal.returns-clause-well_formed
returns-clause-well_formed c = rw c.drop_stream.ensures.items (keeps-drop_stream (content_of c.self.inside) c.args.stream c.self.invariant.content)
