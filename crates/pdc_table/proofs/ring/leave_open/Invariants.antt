use Rattle.std.proofs.Common.{◌≡◌, drop, length}
use Rattle.pdc_table.specs.RingRows.{changed}
use Rattle.pdc_open_row.specs.Views.{without_instant}
use Rattle.pdc_table.proofs.ring.leave_open.Given as goal

abbrev pub invariant-loop-instant : goal.invariant-loop-instant
invariant-loop-instant l = record {
  left : changed without_instant l.circle.window (drop l.instant-index l.instants) l.places.items ≡ changed without_instant l.circle.window l.instants l.initial.places.items;
  size : length l.places.items ≡ l.circle.window;
  capacity : l.places.capacity ≡ l.initial.places.capacity;
}
