use Rattle.std.proofs.Common.{◌≡◌, ◌+◌, ◌≤◌, ◌++◌, length, vec_capacity}
use Rattle.pdc_frame.proofs.buffer.VecU8Buffer.append_bytes.Given as goal

abbrev pub invariant-loop-rest : goal.invariant-loop-rest
invariant-loop-rest g l = record {
  items : l.self.items ++ l.rest ≡ l.initial.self.items ++ l.bytes;
  room : length l.self.items + length l.rest ≤ vec_capacity l.self;
  capacity : vec_capacity l.self ≡ vec_capacity l.initial.self;
}

abbrev pub decreases-loop-rest : goal.decreases-loop-rest
decreases-loop-rest g l = length l.rest
