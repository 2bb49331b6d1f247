use Rattle.std.proofs.Common.{◌≡◌, take}
use Rattle.pdc_table.proofs.ring_closing.copy_closed.Given as goal

-- as many as were looked at stand in the list
abbrev pub invariant-loop-place : goal.invariant-loop-place
invariant-loop-place l = record {
  items : l.closed.items ≡ take l.place l.others.items;
  capacity : l.closed.capacity ≡ l.initial.closed.capacity;
}
