-- Where a stop falls on a mark, and what it leaves of the mark's file.
use Rattle.std.specs.Prelude.{◌≡◌, ◌+◌, ℕ, nat_lt, if◌then◌else◌, Bool, List}
use Rattle.pdc_disk.specs.Disk.{AllSettled}
use Rattle.pdc_mark.specs.declared.slot.Slot.{Slot}
use Rattle.pdc_mark.specs.Counts.{raised_to}
use Rattle.pdc_mark.specs.Stores.{file_stopped}

-- between stores, or in the store of a next start, of a floor or of counts, which landed or not
pub data Stop : Type 0 where
  Between : Stop
  InBegin : (landed : Bool) → Stop
  InReserve : (floor : ℕ) (landed : Bool) → Stop
  InRaise : (counts : List ℕ) (landed : Bool) → Stop

-- where a stop falls in a reservation for an instant: in its store, where the instant is above the floor, and else between stores
abbrev pub stop_in_reserving : (landed : Bool) (lead instant floor : ℕ) → Stop
stop_in_reserving landed lead instant floor = if nat_lt floor instant then InReserve (instant + lead) landed else Between

-- A stop in the raise to the counts that wait: in its store, where one of them is greater, and else between stores.
pub record StopsInRaise {M : Type 0} (StopsAs : Stop → M → M → Type 0) (landed : Bool) (waiting counts : List ℕ) (before after : M) : Type 0 where
  pub in_store : (counts ≡ raised_to counts waiting → ⊥) → StopsAs (InRaise (raised_to counts waiting) landed) before after
  pub between : counts ≡ raised_to counts waiting → StopsAs Between before after

-- the file after the stop, where the mark is then this one: a stop between stores leaves it, and one in a store tears it where it did not land
abbrev pub file_left : Stop → List ℕ → Slot → List ℕ
file_left Between bytes mark = bytes
file_left (InBegin landed) bytes mark = file_stopped landed bytes mark
file_left (InReserve floor landed) bytes mark = file_stopped landed bytes mark
file_left (InRaise counts landed) bytes mark = file_stopped landed bytes mark

-- A mark on a disk as it is opened behind a stop: its file is what the stop left, all of it is on the device, and no call of the device
-- has failed since.
pub record IsLeft (stop : Stop) (before after : List ℕ) (mark : Slot) (is_settled : ℕ → Bool) (failures : ℕ) : Type 0 where
  pub file : after ≡ file_left stop before mark
  pub settled : AllSettled is_settled
  pub none_failed : failures ≡ 0
