use Rattle.std.proofs.Common.{length, ◌≡◌, ◌+◌, ◌++◌, map, take}
use Rattle.pdc_row.specs.RowView.{row_view}
use Rattle.pdc_table.specs.pdc_columns.Layout.{layout_view}
use Rattle.pdc_table.specs.pdc_open_row.Row.{row_of}
use Rattle.try_script.proofs.rows.close.Given as goal

abbrev pub invariant-loop-row : goal.invariant-loop-row
invariant-loop-row l = record {
  items : map row_view l.closed.items ≡ map row_view l.initial.closed.items ++ map (row_of (layout_view l.layout)) (take l.row-index l.rows);
  len : length l.closed.items ≡ length l.initial.closed.items + l.row-index;
  capacity : l.closed.capacity ≡ l.initial.closed.capacity;
}
