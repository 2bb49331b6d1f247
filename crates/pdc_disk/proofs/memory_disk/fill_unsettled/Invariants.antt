use Rattle.std.proofs.Common.{◌≡◌, ℕ, ◌<◌, ◌≤◌, true, slice_index, slice_index_or, cond}
use Rattle.pdc_disk.proofs.memory_disk.fill_unsettled.Given as goal

abbrev pub invariant-loop-i : goal.invariant-loop-i
invariant-loop-i l = record {
  done : (i : ℕ) → i < l.i → slice_index l.bytes i ≡ cond (slice_index_or l.settled i true) (slice_index l.initial.bytes i) l.byte;
  to_do : (i : ℕ) → l.i ≤ i → slice_index l.bytes i ≡ slice_index l.initial.bytes i;
}
