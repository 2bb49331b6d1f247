use Rattle.std.proofs.Common.{◌≡◌, slice_set, take}
use Rattle.pdc_row.proofs.row_blocks.RowBlocks.put_anew.Given as goal

abbrev pub invariant-loop-at : goal.invariant-loop-at
invariant-loop-at g l = l.blocks ≡ take l.at (slice_set l.fn.self l.fn.place (g.B.Offered.view l.fn.block))
