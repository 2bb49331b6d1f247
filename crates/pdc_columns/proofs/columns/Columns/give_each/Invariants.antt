use Rattle.std.proofs.Common.{◌≡◌, ◌≤◌, ◌++◌, length, drop}
use Rattle.pdc_columns.specs.ColumnParts.{worst_kept}
use Rattle.pdc_columns.specs.Giving.{blocks_of, qualities_of}
use Rattle.pdc_row.specs.Quality.{worst_of, quality_of}
use Rattle.pdc_columns.proofs.columns.Columns.give_each.Given as goal

-- the blocks so far, and those of the columns that are left; the worst quality so far, and those that are left
abbrev pub invariant-loop-place : goal.invariant-loop-place
invariant-loop-place l = record {
  few : length l.blocks ≤ l.place;
  blocks : l.blocks ++ blocks_of (drop l.place l.shapes) (drop l.place l.self) ≡ blocks_of l.shapes l.self;
  quality : worst_of (worst_kept l.above) (qualities_of (drop l.place l.shapes) (drop l.place l.self)) ≡ quality_of (qualities_of l.shapes l.self);
  fits : l.above ≤ 16;
}
