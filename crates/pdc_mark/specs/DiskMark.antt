-- What a mark on a disk shows of itself.
use Rattle.std.specs.Prelude.{ℕ, Bool, List, ◌++◌, Result}
use Rattle.pdc_disk.specs.Disk.{Leaves}
use Rattle.pdc_disk.specs.declared.disk.Disk.{Ghosts}
use Rattle.pdc_mark.specs.declared.slot.Slot.{Slot}
use Rattle.pdc_mark.specs.declared.disk_mark.DiskMark.{DiskMark}
use Rattle.pdc_mark.specs.declared.fault.MarkFault.{MarkFault}
use Rattle.pdc_mark.specs.declared.layout.TheConstants.{OPEN, CLOSED}
use Rattle.pdc_mark.specs.declared.stored.Stored.{Stored}
use Rattle.pdc_mark.specs.Faults.{HasDeviceCause}
use Rattle.pdc_mark.specs.Slots.{slot_bytes}
use Rattle.pdc_mark.specs.Stored.{first_stored}

-- the disk that the mark stands on
abbrev pub disk_of : {D : Type 0} {disks : Ghosts D} → DiskMark D disks → D
disk_of mark = mark.disk

-- whose mark it is and what it stores, as the last store that was done left them
abbrev pub mark_on : {D : Type 0} {disks : Ghosts D} → DiskMark D disks → Slot
mark_on mark = mark.slot

-- a device fault stands
abbrev pub is_broken_of : {D : Type 0} {disks : Ghosts D} → DiskMark D disks → Bool
is_broken_of mark = mark.is_broken

-- what the mark stores
abbrev pub stored_of : {D : Type 0} {disks : Ghosts D} → DiskMark D disks → Stored
stored_of mark = mark.slot.stored

-- a mark of the same owner that stores this
abbrev pub with_stored : Slot → Stored → Slot
with_stored slot stored = record slot { stored = stored }

-- the mark of an owner that never began a life
abbrev pub first_mark : ℕ → ℕ → Slot
first_mark id rate = record { id = id; rate = rate; stored = first_stored }

-- the whole file of such a mark: in the first slot, and the second is closed
abbrev pub first_file : ℕ → ℕ → List ℕ
first_file id rate = slot_bytes OPEN (first_mark id rate) ++ slot_bytes CLOSED (first_mark id rate)

-- a device fault has its cause on the disk
abbrev pub HasCauseOnDisk : {D T : Type 0} {disks : Ghosts D} → DiskMark D disks → DiskMark D disks → Result T MarkFault → Type 0
HasCauseOnDisk {disks = disks} old new result =
    HasDeviceCause (is_broken_of old) (is_broken_of new) (disks.failures (disk_of old)) (disks.failures (disk_of new)) result

-- whatever a stop leaves of the disk has this property
abbrev pub StopLeaves : {D : Type 0} {disks : Ghosts D} → DiskMark D disks → (List ℕ → Type 0) → Type 0
StopLeaves {disks = disks} mark P = Leaves (disks.seen (disk_of mark)) (disks.is_settled (disk_of mark)) P
