use Rattle.std.proofs.Common.{◌≡◌, List, length}
use Rattle.pdc_row.specs.CellView.{BlockView}
use Rattle.pdc_columns.specs.ColumnParts.{columns_of}
use Rattle.pdc_columns.proofs.whole.lay_out_empty.Given as goal

-- the columns show what they showed
abbrev pub invariant-loop-place : goal.invariant-loop-place
invariant-loop-place l = record {
  columns : (second : List BlockView) → length second ≡ length l.held → columns_of l.held l.first second ≡ columns_of l.held l.initial.first second;
  len : length l.first ≡ length l.initial.first;
}
