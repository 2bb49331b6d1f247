use Rattle.std.proofs.Common.{◌≡◌, ◌≤◌, ◌++◌, List, Some, drop, length, map, take}
use Rattle.pdc_row.specs.CellView.{BlockView}
use Rattle.pdc_row.specs.KeptBlocks.{shapes_of}
use Rattle.pdc_row.specs.Quality.{quality_of, worst_of}
use Rattle.pdc_columns.specs.ColumnParts.{columns_of, worst_kept}
use Rattle.pdc_columns.specs.Giving.{blocks_of, qualities_of}
use Rattle.pdc_columns.proofs.row_blocks.front_of_each.Given as goal

-- as many as were looked at give the present block of lane 0
abbrev pub invariant-loop-place : goal.invariant-loop-place
invariant-loop-place l = record {
  blocks : (second : List BlockView) → length second ≡ length l.held → take l.place (blocks_of (map Some (shapes_of l.first)) (columns_of l.held l.first second)) ++ drop l.place l.first ≡ l.first;
  quality : (second : List BlockView) → length second ≡ length l.held → worst_of (worst_kept l.above) (qualities_of (drop l.place (map Some (shapes_of l.first))) (drop l.place (columns_of l.held l.first second))) ≡ quality_of (qualities_of (map Some (shapes_of l.first)) (columns_of l.held l.first second));
  fits : l.above ≤ 16;
}
