use Rattle.std.proofs.Common.{◌≡◌, ℕ, ◌<◌, ◌≤◌, max, true, false, length, slice_index}
use Rattle.pdc_mark.proofs.greater.raised_each.Given as goal

abbrev pub invariant-loop-i : goal.invariant-loop-i
invariant-loop-i l = record {
  size : length l.raised ≡ 16;
  done : (k : ℕ) → k < l.i → slice_index l.raised k ≡ max (slice_index l.counts k) (slice_index l.others k);
  to_do : (k : ℕ) → l.i ≤ k → slice_index l.raised k ≡ slice_index l.counts k;
  same : l.differs ≡ false → (k : ℕ) → k < l.i → slice_index l.others k ≤ slice_index l.counts k;
  other : l.differs ≡ true → (k : ℕ) × (k < l.i) × (slice_index l.counts k < slice_index l.others k);
}
