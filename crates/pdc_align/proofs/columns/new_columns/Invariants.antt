use Rattle.std.proofs.Common.{◌≡◌, ◌≤◌, length, map}
use Rattle.std.specs.List.{range_with_len}
use Rattle.pdc_align.specs.Calls.{new_column}
use Rattle.pdc_align.proofs.columns.new_columns.Given as goal

-- the columns so far, and there is room for all
abbrev pub invariant-loop-place : goal.invariant-loop-place
invariant-loop-place l = record {
  items : l.columns.items ≡ map (new_column l.counts) (range_with_len 0 l.place);
  len : length l.columns.items ≡ l.place;
  room : l.count ≤ l.columns.capacity;
}
