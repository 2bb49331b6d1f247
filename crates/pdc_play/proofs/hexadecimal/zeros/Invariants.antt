use Rattle.std.proofs.Common.{◌≡◌, ◌≤◌, replicate, vec_len}
use Rattle.std.specs.Vec.{vec_capacity}
use Rattle.pdc_play.proofs.hexadecimal.zeros.Given as goal

abbrev pub invariant-loop : goal.invariant-loop
invariant-loop l = record {
  items : l.bytes.items ≡ replicate l.counter 0;
  len : vec_len l.bytes ≡ l.counter;
  room : l.count ≤ vec_capacity l.bytes;
}
