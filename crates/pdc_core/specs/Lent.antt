-- What contracts see of data that is lent, and of what it is kept with.
use Rattle.std.specs.Prelude.{◌≡◌, ℕ, ◌||◌, Bool, false, true, List, None, Option, Some, length, nat_le, option_map}
use Rattle.pdc_align.specs.pdc_life.Arrival.{Arrival}
use Rattle.pdc_align.specs.pdc_frame.Claim.{claim_of}
use Rattle.pdc_core.specs.KeptArrival.{can_hold, data_view, taken_view}
use Rattle.pdc_core.specs.declared.kept_arrival.KeptArrival.{KeptArrival as KeptArrivalData}
use Rattle.pdc_core.specs.declared.kept_arrival.KeptArrival.TheVariants as taken
use Rattle.pdc_core.specs.declared.lent_data.LentData.{LentData}
use Rattle.pdc_core.specs.declared.payload.TheConstants.{SHORT_PAYLOAD}

abbrev pub lent_view : LentData → Arrival
lent_view lent = data_view lent.instant lent.quality lent.payload.now (option_map claim_of lent.claim)

-- what arrived: data that is lent, or else what is kept
abbrev pub brought_view : Option LentData → KeptArrivalData → Arrival
brought_view None kept = taken_view kept
brought_view (Some lent) kept = lent_view lent

-- data with this payload can be written over what is kept with no memory
abbrev pub can_take : KeptArrivalData → List ℕ → Bool
can_take (taken.Data instant quality own claim) payload = can_hold own payload
can_take other payload = false

-- so that a copy of it needs none: it lies in place, or can be written over what is kept
abbrev pub has_room : KeptArrivalData → List ℕ → Bool
has_room kept payload = nat_le (length payload) SHORT_PAYLOAD || can_take kept payload

-- of data that is lent
abbrev pub HasRoomFor : KeptArrivalData → Option LentData → Type 0
HasRoomFor kept None = Unit {0}
HasRoomFor kept (Some lent) = has_room kept lent.payload.now ≡ true
