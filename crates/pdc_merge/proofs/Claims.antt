-- What data is whose check word was not computed, by whether it is right.
use Rattle.std.proofs.Common.{◌≡◌, Bool, ℕ, List, ap, false, sym, true}
use Rattle.std.specs.Prelude.{if◌then◌else◌}
use Rattle.pdc_arrival.specs.Claimed.{claimed_data}
use Rattle.pdc_frame.specs.Claim.{is_right}
use Rattle.pdc_frame.specs.declared.claim.Claim.{Claim}
use Rattle.pdc_frame.specs.declared.fault.FrameFault.TheVariants.{BadCheck}
use Rattle.pdc_life.specs.Arrival.{BytesRefused, Data}
use Rattle.pdc_life.specs.declared.outcome.Refusal.TheVariants.{NoFrame}

pub where_right : (instant quality : ℕ) (payload : List ℕ) (claim : Claim) → is_right claim payload ≡ true → Data instant quality payload ≡ claimed_data instant quality payload claim
where_right instant quality payload claim e = ap (λ (b : Bool). if b then Data instant quality payload else BytesRefused (NoFrame BadCheck)) (sym e)

pub where_wrong : (instant quality : ℕ) (payload : List ℕ) (claim : Claim) → is_right claim payload ≡ false → BytesRefused (NoFrame BadCheck) ≡ claimed_data instant quality payload claim
where_wrong instant quality payload claim e = ap (λ (b : Bool). if b then Data instant quality payload else BytesRefused (NoFrame BadCheck)) (sym e)
