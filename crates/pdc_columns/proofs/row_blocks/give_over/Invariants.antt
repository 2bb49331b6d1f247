use Rattle.std.proofs.Common.{◌≡◌, ◌≤◌, ◌++◌, Some, drop, map, take}
use Rattle.pdc_row.specs.KeptBlocks.{shapes_of}
use Rattle.pdc_row.specs.Quality.{quality_of, worst_of}
use Rattle.pdc_columns.specs.ColumnParts.{columns_of, worst_kept}
use Rattle.pdc_columns.specs.Giving.{blocks_of, qualities_of}
use Rattle.pdc_columns.proofs.row_blocks.give_over.Given as goal

-- as many as were looked at are those that the columns give, the others are those of lane 0
abbrev pub invariant-loop-place : goal.invariant-loop-place
invariant-loop-place l = record {
  blocks : l.blocks ≡ take l.place (blocks_of (map Some (shapes_of l.initial.blocks)) (columns_of l.held l.initial.blocks l.second)) ++ drop l.place l.initial.blocks;
  quality : worst_of (worst_kept l.above) (qualities_of (drop l.place (map Some (shapes_of l.initial.blocks))) (drop l.place (columns_of l.held l.initial.blocks l.second))) ≡ quality_of (qualities_of (map Some (shapes_of l.initial.blocks)) (columns_of l.held l.initial.blocks l.second));
  fits : l.above ≤ 16;
}
