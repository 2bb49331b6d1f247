use Rattle.std.proofs.Common.{◌<◌, ℕ, List, length, subst, sym}
use Rattle.std.specs.List.{AllByRecursion}
use Rattle.pdc_row.specs.CellView.{CellView}
use Rattle.pdc_row.specs.pdc_block.Block.{words_in}
use Rattle.pdc_columns.specs.Parts.{cut_cells}
use Rattle.pdc_columns.specs.Views.{ColumnView}
use Rattle.pdc_columns.proofs.Exist.{each_exists}
use Rattle.pdc_columns.proofs.parts.CutBlocks.put.Goals as goal

pub put_parts-requires-clause-columns : goal.put_parts-requires-clause-columns
put_parts-requires-clause-columns g c =
    subst (λ (columns : List ColumnView). AllByRecursion (λ (cell : ℕ × CellView). cell.0 < length columns) (cut_cells g.P.Part.column_of g.P.Part.shape_of c.args.self.now.parts.now c.args.quality (words_in c.args.self.now.bytes.now)))
    (sym (c.put_whole.ensures.none c.if-not-put_whole.true))
    (each_exists (length c.args.columns.now) (cut_cells g.P.Part.column_of g.P.Part.shape_of c.args.self.now.parts.now c.args.quality (words_in c.args.self.now.bytes.now)) c.requires.columns)
