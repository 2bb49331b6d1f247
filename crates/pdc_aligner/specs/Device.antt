-- Why a call of the aligner failed, and how the mark stands.
use Rattle.std.specs.Prelude.{◌≡◌, ◌⊎◌, ℕ, ◌≤◌, ◌<◌, ◌-◌, ◌^◌, Bool, true, IsTrue, IsErrOf, OnOk, Result}
use Rattle.pdc_mark.specs.declared.mark.Mark.{Ghosts}
use Rattle.pdc_publisher.specs.declared.publisher.Publisher.{Publisher}
use Rattle.pdc_publisher.specs.Publisher.{has_failed_in, mark_in}
use Rattle.pdc_hub.specs.declared.fault.HubFault.{HubFault}
use Rattle.pdc_hub.specs.declared.fault.HubFault.TheVariants.{Device, NoMemory, Stuck}
use Rattle.pdc_hub.specs.pdc_memory.Asking.{SomeWasRefused}

-- The aligner fails so: by its mark's device, for want of memory where a request was refused, or where the channel's other end is gone.
abbrev pub IsOfAligner : HubFault → Type 0
IsOfAligner Device = Unit {0}
IsOfAligner NoMemory = SomeWasRefused
IsOfAligner Stuck = Unit {0}
IsOfAligner _ = ⊥

-- and, where it puts a layout, by no device
abbrev pub IsOfLayout : HubFault → Type 0
IsOfLayout NoMemory = SomeWasRefused
IsOfLayout Stuck = Unit {0}
IsOfLayout _ = ⊥

-- How a mark stands: whether its publisher failed, whether a device fault stands on it, how often the device failed.
pub record Standing : Type 0 where
  pub failed : Bool
  pub broken : Bool
  pub failures : ℕ

abbrev pub standing_of : {M : Type 0} {marks : Ghosts M} → Publisher M marks → Standing
standing_of {marks = marks} publisher = record { failed = has_failed_in publisher; broken = marks.is_broken (mark_in publisher); failures = marks.failures (mark_in publisher) }

-- A device failed between the one count of its failures and the other, or the first is the greatest.
abbrev pub HasFailedSince : (before after : ℕ) → Type 0
HasFailedSince before after = (before < after) ⊎ (before ≡ 2 ^ 64 - 1)

-- A device fault stood before, or the device failed since.
abbrev pub IsDown : (before after : Standing) → Type 0
IsDown before after = (before.failed ≡ true) ⊎ (IsTrue before.broken ⊎ HasFailedSince before.failures after.failures)

-- A device fault is answered only where one stood before or the device failed since, and no failure is forgotten. After Ok none stands that
-- did not stand before.
pub record HasDevice {T : Type 0} (before after : Standing) (result : Result T HubFault) : Type 0 where
  pub no_fewer : before.failures ≤ after.failures
  pub caused : IsErrOf result Device → IsDown before after
  pub sound : OnOk result ((after.failed ≡ true → before.failed ≡ true) × (IsTrue after.broken → IsTrue before.broken))
