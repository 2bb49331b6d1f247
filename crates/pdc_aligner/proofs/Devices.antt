-- How the mark stands from call to call, and rows as they were popped.
use Rattle.std.proofs.Common.{arith, ◌≡◌, ℕ, ◌≤◌, true, inl, inr, Result, Ok, Err, IsTrue, OnErr, sym, ap, subst}
use Rattle.pdc_hub.specs.declared.fault.HubFault.{HubFault}
use Rattle.pdc_hub.specs.declared.fault.HubFault.TheVariants.{Device}
use Rattle.pdc_aligner.specs.Device.{HasDevice, HasFailedSince, IsDown, Standing}

-- what failed since a later state failed since an earlier one
failed_since : (first middle last : ℕ) → first ≤ middle → middle ≤ last → HasFailedSince middle last → HasFailedSince first last
failed_since first middle last a b h = grind (arith, a, b, h)

-- a fault that stood later, where none arose in between, stood before
down_since : (first middle last : Standing) → first.failures ≤ middle.failures → middle.failures ≤ last.failures → (middle.failed ≡ true → first.failed ≡ true) → (IsTrue middle.broken → IsTrue first.broken) → IsDown middle last → IsDown first last
down_since first middle last a b f k (inl h) = inl (f h)
down_since first middle last a b f k (inr (inl h)) = inr (inl (k h))
down_since first middle last a b f k (inr (inr h)) = inr (inr (failed_since first.failures middle.failures last.failures a b h))

abbrev fault_of : {T : Type 0} → Result T HubFault → HubFault
fault_of (Ok x) = Device
fault_of (Err fault) = fault

-- So a mark stands after calls that were Ok: none arose.
pub record IsSound (before after : Standing) : Type 0 where
  pub no_fewer : before.failures ≤ after.failures
  pub failed : after.failed ≡ true → before.failed ≡ true
  pub broken : IsTrue after.broken → IsTrue before.broken

pub sound_same : (before after : Standing) → after ≡ before → IsSound before after
sound_same before after e = subst (λ (s : Standing). IsSound before s) (sym e) (record { no_fewer = omega arith; failed = λ h. h; broken = λ h. h })

pub sound_on : (first middle last : Standing) → IsSound first middle → IsSound middle last → IsSound first last
sound_on first middle last x y = record { no_fewer = omega (arith, x.no_fewer, y.no_fewer); failed = λ h. x.failed (y.failed h); broken = λ h. x.broken (y.broken h) }

pub sound_of : {T : Type 0} (before after : Standing) (x : T) → HasDevice {T = T} before after (Ok x) → IsSound before after
sound_of before after x h = record { no_fewer = h.no_fewer; failed = h.sound.0; broken = h.sound.1 }

pub device_ok : {T : Type 0} (before after : Standing) (x : T) → IsSound before after → HasDevice before after (Ok x)
device_ok {T} before after x h = record { no_fewer = h.no_fewer; caused = λ d. absurd (subst (λ (r : Result T HubFault). OnErr r ⊥) d tt); sound = (h.failed, h.broken) }

-- a call that failed by no device, and left the mark
pub device_other : {T : Type 0} (before after : Standing) (fault : HubFault) → IsSound before after → (fault ≡ Device → ⊥) → HasDevice {T = T} before after (Err fault)
device_other before after fault h n = record { no_fewer = h.no_fewer; caused = λ d. absurd (n (ap fault_of d)); sound = tt }

-- a call that failed after ones that were Ok
pub device_on : {T U : Type 0} (first middle last : Standing) (fault : HubFault) → IsSound first middle → HasDevice {T = T} middle last (Err fault) → HasDevice {T = U} first last (Err fault)
device_on first middle last fault h k = record {
  no_fewer = omega (arith, h.no_fewer, k.no_fewer);
  caused = λ d. down_since first middle last h.no_fewer k.no_fewer h.failed h.broken (k.caused (ap (λ (f : HubFault). Err f) (ap fault_of d)));
  sound = tt;
}

-- a store that failed
pub device_failed : {T : Type 0} (before after : Standing) → before.failures ≤ after.failures → IsDown before after → HasDevice {T = T} before after (Err Device)
device_failed before after m h = record { no_fewer = m; caused = λ d. h; sound = tt }
