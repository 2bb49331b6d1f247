use Rattle.std.proofs.Common.{◌≡◌, ◌≤◌, length, vec_len}
use Rattle.std.specs.Vec.{vec_capacity}
use Rattle.pdc_threads.proofs.asking.buffer.Given as goal

abbrev pub invariant-loop : goal.invariant-loop
invariant-loop l = record {
  items : length l.bytes.items ≡ l.counter;
  len : vec_len l.bytes ≡ l.counter;
  room : l.count ≤ vec_capacity l.bytes;
}
