use Rattle.std.proofs.Common.{◌≡◌, ◌+◌, ◌++◌, drop, length, take}
use Rattle.pdc_open_row.specs.pdc_columns.Layout.{layout_view}
use Rattle.pdc_table.specs.RingRows.{laid}
use Rattle.pdc_table.proofs.ring_closing.close.Given as goal

abbrev pub invariant-loop-instant : goal.invariant-loop-instant
invariant-loop-instant l = record {
  left : laid (layout_view l.layout) l.circle.window (drop l.instant-index l.due) l.layouts.items ≡ laid (layout_view l.layout) l.circle.window l.due l.initial.layouts.items;
  size : length l.layouts.items ≡ l.circle.window;
  items : l.closed.items ≡ l.initial.closed.items ++ take l.instant-index l.due;
  len : length l.closed.items ≡ length l.initial.closed.items + l.instant-index;
  layouts_capacity : l.layouts.capacity ≡ l.initial.layouts.capacity;
  capacity : l.closed.capacity ≡ l.initial.closed.capacity;
}
