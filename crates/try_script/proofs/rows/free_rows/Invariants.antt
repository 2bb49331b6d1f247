use Rattle.std.proofs.Common.{◌≡◌, length, replicate}
use Rattle.pdc_table.specs.pdc_open_row.Views.{blank_row}
use Rattle.try_script.proofs.rows.free_rows.Given as goal

abbrev pub invariant-loop : goal.invariant-loop
invariant-loop l = record {
  items : l.free.items ≡ replicate l.counter (blank_row l.places.streams l.places.columns 0);
  len : length l.free.items ≡ l.counter;
  capacity : l.free.capacity ≡ l.count;
}
