use Rattle.std.proofs.Common.{◌≡◌, ◌+◌, ◌++◌, drop, length, take}
use Rattle.std.specs.Vec.{vec_capacity}
use Rattle.try_script.proofs.rows.leave_front.Given as goal

-- as many rows as were counted are free
abbrev pub invariant-loop : goal.invariant-loop
invariant-loop l = record {
  items : l.rows.items ≡ drop l.counter l.initial.rows.items;
  free : l.free.items ≡ l.initial.free.items ++ take l.counter l.initial.rows.items;
  len : length l.free.items ≡ length l.initial.free.items + l.counter;
  left : length l.rows.items + l.counter ≡ length l.initial.rows.items;
  capacity : vec_capacity l.rows ≡ vec_capacity l.initial.rows;
  free_capacity : l.free.capacity ≡ l.initial.free.capacity;
}
