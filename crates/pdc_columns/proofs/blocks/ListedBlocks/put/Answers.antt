use Rattle.std.proofs.Common.{length}
use Rattle.pdc_columns.proofs.Exist.{columns_exist}
use Rattle.pdc_columns.proofs.blocks.ListedBlocks.put.Goals as goal

pub put_cells-requires-clause-columns : goal.put_cells-requires-clause-columns
put_cells-requires-clause-columns g c = columns_exist g.B.Offered.view (length c.args.columns.now) c.args.quality c.args.self.now.cells.now c.requires.columns
