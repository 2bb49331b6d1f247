use Rattle.std.proofs.Common.{◌≡◌, ◌≤◌, length, replicate}
use Rattle.pdc_open_row.specs.Views.{blank_row}
use Rattle.pdc_table.proofs.rows.new_places.Given as goal

abbrev pub invariant-loop : goal.invariant-loop
invariant-loop l = record {
  items : l.places.items ≡ replicate l.counter (blank_row l.sizes.streams l.sizes.columns 0);
  len : length l.places.items ≡ l.counter;
  room : l.count ≤ l.places.capacity;
}
