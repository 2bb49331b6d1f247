use Rattle.std.proofs.Common.{◌≡◌, ◌+◌, drop, length, take}
use Rattle.std.specs.Vec.{vec_capacity}
use Rattle.try_script.proofs.rows.open_copies.Given as goal

-- as many as were looked at stand in the list
abbrev pub invariant-loop-other : goal.invariant-loop-other
invariant-loop-other l = record {
  items : l.rows.items ≡ take l.other-index l.others;
  free : l.free.items ≡ drop l.other-index l.initial.free.items;
  len : length l.free.items + l.other-index ≡ length l.initial.free.items;
  capacity : vec_capacity l.rows ≡ vec_capacity l.initial.rows;
  free_capacity : l.free.capacity ≡ l.initial.free.capacity;
}
