use Rattle.std.proofs.Common.{length}
use Rattle.pdc_row.specs.pdc_block.Block.{words_in}
use Rattle.pdc_columns.specs.Parts.{cut_cells}
use Rattle.pdc_columns.proofs.Exist.{each_exists}
use Rattle.pdc_columns.proofs.parts.CutBlocks.conflict.Goals as goal

pub any_other_part-requires-clause-columns : goal.any_other_part-requires-clause-columns
any_other_part-requires-clause-columns g c =
    each_exists (length c.args.columns.now) (cut_cells g.P.Part.column_of g.P.Part.shape_of c.args.self.now.parts.now c.args.quality (words_in c.args.self.now.bytes.now)) c.requires
