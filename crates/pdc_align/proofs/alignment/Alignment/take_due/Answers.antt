use Rattle.std.proofs.Common.{◌∙◌, option_map, sym, ap}
use Rattle.pdc_arrival.specs.pdc_row.RowView.{row_view}
use Rattle.pdc_align.proofs.Popped.{popped_rest}
use Rattle.pdc_align.proofs.alignment.Alignment.take_due.Goals as goal

pub invariant_of-self : goal.invariant_of-self
invariant_of-self g c = record {
  well_formed = c.pop_due-row.ensures.well_formed;
  each = c.self.invariant.each ∙ sym c.pop_due-row.ensures.sizes.columns;
  lanes = c.self.invariant.lanes ∙ sym c.pop_due-row.ensures.sizes.lanes;
  gone = popped_rest (g.T.Table.content c.self.inside.table) (g.T.Table.content c.pop_due-row.new.self) (row_view c.in-Some.row) (sym (ap (option_map row_view) c.in-Some.is) ∙ c.pop_due-row.ensures.answer) c.pop_due-row.ensures.content c.self.invariant.well_formed;
  shapes = c.self.invariant.shapes;
  quiet = c.self.invariant.quiet;
}
