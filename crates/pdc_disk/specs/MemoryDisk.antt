-- What a disk in memory shows of itself, and what it is after a stop.
use Rattle.std.specs.Prelude.{◌≡◌, ℕ, ◌<◌, ◌≤◌, ◌⊎◌, ◌+◌, Bool, true, false, List, length, take, slice_index, if◌then◌else◌}
use Rattle.std.specs.List.{slice_index_or}
use Rattle.pdc_disk.specs.Disk.{written}
use Rattle.pdc_disk.specs.declared.memory_disk.MemoryDisk.{MemoryDisk}
use Rattle.pdc_disk.specs.declared.memory_disk.Landing.{Landing}
use Rattle.pdc_disk.specs.declared.memory_disk.Landing.TheVariants.{Before, After, Fill}

-- the bytes that reads give
abbrev pub seen_of : MemoryDisk → List ℕ
seen_of disk = take disk.len disk.bytes

-- the bytes at the last sync
abbrev pub synced_of : MemoryDisk → List ℕ
synced_of disk = take disk.synced_len disk.synced

-- the byte here was not written since the last sync
abbrev pub is_settled_at : MemoryDisk → ℕ → Bool
is_settled_at disk i = slice_index_or disk.settled i true

-- the calls that went past the last place
abbrev pub failures_of : MemoryDisk → ℕ
failures_of disk = disk.failures

-- what stands here after a stop that fills each byte written since the last sync with this one
abbrev pub filled_at : MemoryDisk → ℕ → ℕ → ℕ
filled_at disk byte i = if is_settled_at disk i then slice_index (seen_of disk) i else byte

-- what a stop leaves, by how it lands
abbrev pub IsLanded : Landing → MemoryDisk → List ℕ → Type 0
IsLanded Before disk image = image ≡ synced_of disk
IsLanded After disk image = image ≡ seen_of disk
IsLanded (Fill byte) disk image = (length image ≡ length (seen_of disk)) × ((i : ℕ) → i < length image → slice_index image i ≡ filled_at disk byte i)

-- The bytes stand in their range, which isn't settled any more. All else is as it was.
pub record IsWritten (at : ℕ) (bytes : List ℕ) (old new : MemoryDisk) : Type 0 where
  pub seen : seen_of new ≡ written (seen_of old) at bytes
  pub synced : synced_of new ≡ synced_of old
  pub range : (i : ℕ) → at ≤ i → i < at + length bytes → is_settled_at new i ≡ false
  pub others : (i : ℕ) → (i < at) ⊎ (at + length bytes ≤ i) → is_settled_at new i ≡ is_settled_at old i

-- nothing but the count of failures differs
pub record IsUntouched (old new : MemoryDisk) : Type 0 where
  pub seen : seen_of new ≡ seen_of old
  pub synced : synced_of new ≡ synced_of old
  pub settled : (i : ℕ) → is_settled_at new i ≡ is_settled_at old i
