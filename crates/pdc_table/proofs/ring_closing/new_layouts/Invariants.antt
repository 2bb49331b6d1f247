use Rattle.std.proofs.Common.{◌≡◌, ◌≤◌, length, replicate}
use Rattle.pdc_table.specs.RingRows.{no_layout}
use Rattle.pdc_table.proofs.ring_closing.new_layouts.Given as goal

abbrev pub invariant-loop : goal.invariant-loop
invariant-loop l = record {
  items : l.layouts.items ≡ replicate l.counter no_layout;
  len : length l.layouts.items ≡ l.counter;
  room : l.count ≤ l.layouts.capacity;
}
