use Rattle.std.proofs.Common.{length}
use Rattle.pdc_columns.proofs.Exist.{columns_exist}
use Rattle.pdc_columns.proofs.blocks.ListedBlocks.conflict.Goals as goal

pub any_other-requires : goal.any_other-requires
any_other-requires g c = columns_exist g.B.Offered.view (length c.args.columns.now) c.args._quality c.args.self.now.cells.now c.requires
