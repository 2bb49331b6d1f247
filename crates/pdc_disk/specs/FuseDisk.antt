-- A disk behind a fuse, which passes a number of calls and then none.
use Rattle.std.specs.Prelude.{◌≡◌, ℕ, ◌-◌, ◌<◌, Result, IsErr, IsOk}
use Rattle.pdc_disk.specs.Disk.{HasCause}
use Rattle.pdc_disk.specs.declared.disk.DiskFault.{DiskFault}
use Rattle.pdc_disk.specs.declared.fuse_disk.FuseDisk.{FuseDisk}

-- the disk behind the fuse
abbrev pub inner_of : {D : Type 0} → FuseDisk D → D
inner_of fuse = fuse.inner

-- how many more calls the fuse passes on
abbrev pub calls_left_of : {D : Type 0} → FuseDisk D → ℕ
calls_left_of fuse = fuse.calls_left

-- how many calls failed, here or behind the fuse
abbrev pub failures_of : {D : Type 0} → FuseDisk D → ℕ
failures_of fuse = fuse.failures

-- A call uses one up. Where none is left it fails, and the disk behind isn't called.
-- Else it fails exactly where the disk behind does.
pub record Burns {D T : Type 0} (inner_failures : D → ℕ) (old new : FuseDisk D) (result : Result T DiskFault) (is_safe : Type 0) : Type 0 where
  pub left : calls_left_of new ≡ calls_left_of old - 1
  pub blown : calls_left_of old ≡ 0 → IsErr result
  pub untouched : calls_left_of old ≡ 0 → inner_of new ≡ inner_of old
  pub passed : 0 < calls_left_of old → HasCause (inner_failures (inner_of old)) (inner_failures (inner_of new)) result
  pub safe : 0 < calls_left_of old → is_safe → IsOk result
