use Rattle.std.proofs.Common.{◌≡◌, ◌+◌, ◌++◌, take, vec_len, vec_capacity}
use Rattle.pdc_frame.proofs.buffer.push_each.Given as goal

abbrev pub invariant-loop-byte : goal.invariant-loop-byte
invariant-loop-byte g l = record {
  bytes : l.out.items ≡ l.initial.out.items ++ take l.byte-index l.bytes;
  len : vec_len l.out ≡ vec_len l.initial.out + l.byte-index;
  capacity : vec_capacity l.out ≡ vec_capacity l.initial.out;
}
