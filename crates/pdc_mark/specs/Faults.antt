-- Why a mark is refused, and what a device fault answers for.
use Rattle.std.specs.Prelude.{◌≡◌, ◌≢◌, ◌⊎◌, ℕ, List, length, Some, None, ◌≤◌, ◌↔◌, Bool, IsTrue, Result, IsErrOf}
use Rattle.pdc_disk.specs.Disk.{HasFailed}
use Rattle.pdc_mark.specs.declared.fault.MarkFault.{MarkFault}
use Rattle.pdc_mark.specs.declared.fault.MarkFault.TheVariants.{NoMark, Damaged, OtherOwner, Device, StartsUsedUp, OldMark}
use Rattle.pdc_mark.specs.declared.layout.TheConstants.{MARK_LEN}
use Rattle.pdc_mark.specs.declared.slot.Slot.{Slot}
use Rattle.pdc_mark.specs.declared.version_1.TheConstants.{OLD_LEN}
use Rattle.pdc_mark.specs.Slots.{HasMark}

-- A device fault is answered where one stands from an earlier call, and else only where the device failed in this
-- one. From then on it stands.
pub record HasDeviceCause {T : Type 0} (was_broken is_broken : Bool) (before now : ℕ) (result : Result T MarkFault) : Type 0 where
  pub no_fewer : before ≤ now
  pub stands : IsTrue was_broken → IsErrOf result Device
  pub rose : IsErrOf result Device → IsTrue was_broken ⊎ HasFailed before now
  pub kept : IsErrOf result Device ↔ IsTrue is_broken

-- Why a disk with these bytes is refused: each fault with its cause, where none before it in this order holds.
abbrev pub IsRefusal : List ℕ → ℕ → ℕ → ℕ → ℕ → MarkFault → Type 0
IsRefusal bytes id rate before now Device = HasFailed before now
IsRefusal bytes id rate before now OldMark = (now ≡ before) × (length bytes ≡ OLD_LEN)
IsRefusal bytes id rate before now NoMark = (now ≡ before) × (length bytes ≢ OLD_LEN) × (length bytes ≢ MARK_LEN)
IsRefusal bytes id rate before now Damaged = (now ≡ before) × HasMark bytes None
IsRefusal bytes id rate before now OtherOwner = (now ≡ before) × (slot : Slot) × HasMark bytes (Some slot) × ((slot.id ≢ id) ⊎ (slot.rate ≢ rate))
IsRefusal bytes id rate before now StartsUsedUp = ⊥
