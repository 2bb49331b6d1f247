-- The mark file, version 1: 128 bytes, two slots of 64, each behind a gate. What stands behind a gate is what
-- version 2 has there before the counts.
use Rattle.std.specs.Prelude.{◌≡◌, ◌≢◌, ℕ, ◌+◌, if◌then◌else◌, List, ◌++◌, length, replicate, slice_range, Option, Some, None}
use Rattle.pdc_disk.specs.Disk.{HasFailed}
use Rattle.pdc_mark.specs.declared.fault.MarkFault.{MarkFault}
use Rattle.pdc_mark.specs.declared.fault.MarkFault.TheVariants.{NoMark, Damaged, OtherOwner, Device, StartsUsedUp, OldMark}
use Rattle.pdc_mark.specs.declared.layout.TheConstants.{COUNTS, FIELDS_AT, OPEN, SLOT_LEN}
use Rattle.pdc_mark.specs.declared.slot.Slot.{Slot}
use Rattle.pdc_mark.specs.declared.version_1.TheConstants.{OLD_FIELDS_END, OLD_LEN, OLD_SLOT_LEN}
use Rattle.pdc_mark.specs.Slots.{greatest, is_open, slot_bytes, slot_with, HasJust}

-- what the slot that begins here says, where its gate is open; its counts are 0
abbrev pub open_old_slot : List ℕ → ℕ → Option Slot
open_old_slot bytes at = if is_open bytes at then Some (slot_with (replicate COUNTS 0) (slice_range bytes (at + FIELDS_AT) (at + OLD_FIELDS_END))) else None

-- the mark: the greatest open slot
abbrev pub old_mark_of : List ℕ → Option Slot
old_mark_of bytes = greatest (open_old_slot bytes 0) (open_old_slot bytes OLD_SLOT_LEN)

-- the bytes are a mark file of version 1, and this is its mark
pub record HasOldMark (bytes : List ℕ) (mark : Option Slot) : Type 0 where
  pub size : length bytes ≡ OLD_LEN
  pub holds : old_mark_of bytes ≡ mark

-- Why a disk with these bytes is refused: each fault with its cause, where none before it in this order holds.
abbrev pub IsOldRefusal : List ℕ → ℕ → ℕ → MarkFault → Type 0
IsOldRefusal bytes before now Device = HasFailed before now
IsOldRefusal bytes before now NoMark = (now ≡ before) × (length bytes ≢ OLD_LEN)
IsOldRefusal bytes before now Damaged = (now ≡ before) × HasOldMark bytes None
IsOldRefusal bytes before now OtherOwner = ⊥
IsOldRefusal bytes before now StartsUsedUp = ⊥
IsOldRefusal bytes before now OldMark = ⊥

-- the file of version 2 that such a mark becomes: in the first slot, and the second is all zero
abbrev pub converted_file : Slot → List ℕ
converted_file slot = slot_bytes OPEN slot ++ replicate SLOT_LEN 0

-- the new bytes are the old file's mark as a file of version 2, and this is its start number and floor
pub record IsConverted (old new : List ℕ) (stored : ℕ × ℕ) : Type 0 where
  pub mark : Slot
  pub read : HasOldMark old (Some mark)
  pub told : stored ≡ (mark.stored.start, mark.stored.floor)
  pub file : new ≡ converted_file mark
  pub has : HasJust mark new
