use Rattle.std.proofs.Common.{◌+◌, ◌∙◌, ◌∷◌, [], Some, ap, arith, drop, get_or, length, sym}
use Rattle.std.proofs.lemmas.List.{length-set}
use Rattle.pdc_columns.specs.Taking.{any_second, cells_in, with_cell, with_cells}
use Rattle.pdc_columns.specs.Views.{empty_column}
use Rattle.pdc_columns.proofs.ColumnParts.{seconds_kept}
use Rattle.pdc_columns.proofs.RowSteps.{cells_step}
use Rattle.pdc_columns.proofs.columns.Columns.put_each.Goals as goal

pub loop-cell-preserved : goal.loop-cell-preserved
loop-cell-preserved g c = record {
  columns =
      ap (with_cells c.args.lane (cells_in g.B.Offered.view (drop (c.loop-cell.cell-index + 1) c.args.cells.now) c.args.quality)) c.put_one.ensures
      ∙ sym (cells_step g.B.Offered.view c.args.lane c.args.quality c.args.cells.now c.loop-cell.self c.loop-cell.cell-index c.cell-item.result (omega arith) c.cell-item.is)
      ∙ c.loop-cell.invariant.columns;
  count =
      ap length c.put_one.ensures
      ∙ length-set c.loop-cell.self c.cell-item.result.0 (with_cell c.args.lane (Some (record { block = g.B.Offered.view c.cell-item.result.1; quality = c.args.quality })) (get_or c.loop-cell.self c.cell-item.result.0 empty_column))
      ∙ c.loop-cell.invariant.count;
  alone = λ e.
      ap any_second c.put_one.ensures
      ∙ seconds_kept c.args.lane (cells_in g.B.Offered.view (c.cell-item.result ∷ []) c.args.quality) c.loop-cell.self (c.requires.alone e).0
      ∙ c.loop-cell.invariant.alone e;
}
