use Rattle.std.proofs.Common.{◌≡◌, ◌++◌, drop, length, map, take}
use Rattle.pdc_open_row.specs.Views.{without_instant}
use Rattle.pdc_table.proofs.ring.leave_all.Given as goal

abbrev pub invariant-loop-place : goal.invariant-loop-place
invariant-loop-place l = record {
  items : l.places.items ≡ map without_instant (take l.place l.initial.places.items) ++ drop l.place l.initial.places.items;
  size : length l.places.items ≡ length l.initial.places.items;
  capacity : l.places.capacity ≡ l.initial.places.capacity;
}
