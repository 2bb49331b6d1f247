use Rattle.std.proofs.Common.{◌≡◌, map, take}
use Rattle.pdc_row.specs.CellView.{block_view}
use Rattle.pdc_row.proofs.row_blocks.RowBlocks.from_blocks.Given as goal

abbrev pub invariant-loop-block : goal.invariant-loop-block
invariant-loop-block l = l.kept ≡ map block_view (take l.block-index l.blocks)
