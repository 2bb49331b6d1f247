-- A real file, beside which stands what it is known to hold.
use Rattle.std.specs.Prelude.{◌≡◌, ℕ, ◌+◌, ◌<◌, ◌≤◌, Bool, IsTrue, false, List, ◌++◌, length, replicate, Result, IsErr, ◌↔◌}
use Rattle.pdc_disk.specs.MemoryDisk as memory
use Rattle.pdc_disk.specs.declared.disk.DiskFault.{DiskFault}
use Rattle.pdc_disk.specs.declared.file_disk.FileDisk.{FileDisk}

-- The bytes that reads give. No read tells those past the first 256, and their number alone counts.
abbrev pub seen_of : FileDisk → List ℕ
seen_of disk = memory.seen_of disk.known ++ replicate disk.untold 0

-- the byte here was not written since the last sync
abbrev pub is_settled_at : FileDisk → ℕ → Bool
is_settled_at disk = memory.is_settled_at disk.known

-- the calls that failed
abbrev pub failures_of : FileDisk → ℕ
failures_of disk = disk.failures

-- a call failed, so that it isn't known what the file holds
abbrev pub is_lost_of : FileDisk → Bool
is_lost_of disk = disk.is_lost

-- a fault leaves the disk lost, and a disk that is lost answers a fault
pub record LosesTrack {T : Type 0} (was_lost is_lost : Bool) (result : Result T DiskFault) : Type 0 where
  pub stands : IsTrue was_lost → IsErr result
  pub lost : IsErr result ↔ IsTrue is_lost

-- A write of n bytes from this place on was tried, made or not: what stands in its range isn't settled any more, and the
-- disk is at least as long as it would be after the write.
pub record IsTried (at n : ℕ) (new : FileDisk) : Type 0 where
  pub range : (i : ℕ) → at ≤ i → i < at + n → is_settled_at new i ≡ false
  pub long : at + n ≤ length (seen_of new)

-- the disk shows what it showed
pub record IsUntouched (old new : FileDisk) : Type 0 where
  pub seen : seen_of new ≡ seen_of old
  pub settled : (i : ℕ) → is_settled_at new i ≡ is_settled_at old i
