use Rattle.std.proofs.Common.{length, ◌≡◌, map, take}
use Rattle.pdc_row.specs.RowView.{row_view}
use Rattle.try_script.proofs.rows.copy_closed.Given as goal

-- as many as were looked at stand in the list
abbrev pub invariant-loop-place : goal.invariant-loop-place
invariant-loop-place l = record {
  items : map row_view l.closed.items ≡ map row_view (take l.place l.others.items);
  count : length l.closed.items ≡ l.place;
  capacity : l.closed.capacity ≡ l.initial.closed.capacity;
}
