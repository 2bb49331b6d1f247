use Rattle.std.proofs.Common.{◌≡◌, ◌⊎◌, ℕ, ◌<◌, ◌≤◌, true, false, slice_index_or}
use Rattle.pdc_disk.proofs.memory_disk.unsettle.Given as goal

abbrev pub invariant-loop-i : goal.invariant-loop-i
invariant-loop-i l = record {
  done : (k : ℕ) → l.at ≤ k → k < l.i → slice_index_or l.settled k true ≡ false;
  others : (k : ℕ) → (k < l.at) ⊎ (l.i ≤ k) → slice_index_or l.settled k true ≡ slice_index_or l.initial.settled k true;
}
