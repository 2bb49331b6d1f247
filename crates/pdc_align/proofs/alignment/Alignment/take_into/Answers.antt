use Rattle.std.proofs.Common.{◌∙◌, sym, ap}
use Rattle.pdc_arrival.specs.pdc_row.RowView.{row_view}
use Rattle.pdc_table.specs.KeptRow.{popped_into}
use Rattle.pdc_align.proofs.Popped.{popped_rest}
use Rattle.pdc_align.proofs.alignment.Alignment.take_into.Goals as goal

pub invariant_of-self : goal.invariant_of-self
invariant_of-self g c = record {
  well_formed = c.pop_into-is_some.ensures.well_formed;
  each = c.self.invariant.each ∙ sym c.pop_into-is_some.ensures.sizes.columns;
  lanes = c.self.invariant.lanes ∙ sym c.pop_into-is_some.ensures.sizes.lanes;
  gone = rw c.get.ensures (popped_rest (g.T.Table.content c.self.inside.table) (g.T.Table.content c.pop_into-is_some.new.self) (row_view c.pop_into-is_some.new.row.value)
      (sym (ap (λ b. popped_into b c.pop_into-is_some.new.row) c.if-is_some.true) ∙ c.pop_into-is_some.ensures.answer) c.pop_into-is_some.ensures.content c.self.invariant.well_formed);
  shapes = c.self.invariant.shapes;
  quiet = c.self.invariant.quiet;
}
