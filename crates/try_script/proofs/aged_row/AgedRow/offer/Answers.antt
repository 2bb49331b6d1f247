use Rattle.std.proofs.Common.{◌<◌, ℕ, length, subst, sym}
use Rattle.std.specs.List.{All}
use Rattle.pdc_table.specs.pdc_open_row.Views.{OpenRowView}
use Rattle.try_script.proofs.Cells.{cells_exist}
use Rattle.try_script.proofs.aged_row.AgedRow.offer.Goals as goal

pub offer-requires-clause-columns : goal.offer-requires-clause-columns
offer-requires-clause-columns g c =
    cells_exist g.B.Offered.view (length c.self.inside.row.columns) c.args.quality c.args.cells.now
    (subst (λ (row : OpenRowView). All (λ (cell : ℕ × g.row.B.Denot). cell.0 < length row.columns) c.args.cells.now) (sym c.self.view_is) c.requires.columns)
