-- What bytes say whose check word is not computed yet.
use Rattle.std.specs.Prelude.{ℕ, List, if◌then◌else◌}
use Rattle.pdc_life.specs.Arrival.{Arrival, BytesRefused, Data}
use Rattle.pdc_life.specs.declared.outcome.Refusal.TheVariants.{NoFrame}
use Rattle.pdc_life.specs.pdc_frame.Claim.{claim_of, is_right}
use Rattle.pdc_life.specs.pdc_frame.declared.claim.Claim.{Claim}
use Rattle.pdc_life.specs.pdc_frame.declared.fault.FrameFault.TheVariants.{BadCheck}
use Rattle.pdc_arrival.specs.declared.claimed.ClaimedData.{ClaimedData}

-- data, if it is right, and else bytes that are refused for it
abbrev pub claimed_data : (instant quality : ℕ) → List ℕ → Claim → Arrival
claimed_data instant quality payload claim = if is_right claim payload then Data instant quality payload else BytesRefused (NoFrame BadCheck)

abbrev pub claimed_view : ClaimedData → Arrival
claimed_view c = claimed_data c.instant c.quality c.payload.now (claim_of c.claim)
