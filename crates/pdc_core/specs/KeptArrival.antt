-- What contracts see of an arrival that was kept.
use Rattle.std.specs.Prelude.{◌≡◌, ◌==◌, ℕ, Bool, true, false, List, None, Option, Some, length, map, nat_le, option_map}
use Rattle.pdc_align.specs.pdc_cfg.Section.{SectionFields, fields_of_section}
use Rattle.pdc_core.specs.declared.payload.Payload.{Payload}
use Rattle.pdc_core.specs.declared.payload.Payload.TheVariants as payload
use Rattle.pdc_core.specs.declared.payload.TheConstants.{SHORT_PAYLOAD}
use Rattle.pdc_core.specs.declared.kept_layout.KeptSection.{KeptSection}
use Rattle.pdc_core.specs.declared.kept_arrival.KeptArrival.{KeptArrival as KeptArrivalData}
use Rattle.pdc_core.specs.declared.kept_arrival.KeptArrival.TheVariants as taken
use Rattle.pdc_align.specs.pdc_life.Arrival.{Arrival, BytesRefused, Data, Layout}
use Rattle.pdc_align.specs.pdc_arrival.Claimed.{claimed_data}
use Rattle.pdc_align.specs.pdc_arrival.Views.{stamp_view}
use Rattle.pdc_align.specs.pdc_frame.declared.claim.Claim.{Claim}
use Rattle.pdc_align.specs.pdc_memory.Asking.{WasRefused}

abbrev pub bytes_of : Payload → List ℕ
bytes_of (payload.Short bytes) = bytes
bytes_of (payload.Long own) = own.items

-- these bytes can be written over its own with no memory: over those in place where there is room for them there, over those on the heap
-- where they are as many
abbrev pub can_hold : Payload → List ℕ → Bool
can_hold (payload.Short own) bytes = nat_le (length bytes) SHORT_PAYLOAD
can_hold (payload.Long own) bytes = length bytes == length own.items

abbrev pub kept_part : KeptSection → ℕ × SectionFields
kept_part kept = (kept.column, fields_of_section kept.section)

-- data; where its check word is not computed yet, what it is then
abbrev pub data_view : (instant quality : ℕ) → List ℕ → Option Claim → Arrival
data_view instant quality payload None = Data instant quality payload
data_view instant quality payload (Some claim) = claimed_data instant quality payload claim

abbrev pub taken_view : KeptArrivalData → Arrival
taken_view (taken.BytesRefused refusal) = BytesRefused refusal
taken_view (taken.Data instant quality bytes claim) = data_view instant quality (bytes_of bytes) claim
taken_view (taken.Layout kept) = Layout (option_map stamp_view kept.stamp) (map kept_part kept.sections.items)

-- a copy of it lies in place: refused bytes, and data that is no longer than a PMU's
abbrev pub takes_no_memory : Arrival → Bool
takes_no_memory (BytesRefused refusal) = true
takes_no_memory (Data instant quality payload) = nat_le (length payload) 214
takes_no_memory (Layout stamp sections) = false

-- for how many bytes, or sections, a copy of it asks
abbrev pub wanted_of : Arrival → ℕ
wanted_of (BytesRefused refusal) = 0
wanted_of (Data instant quality payload) = length payload
wanted_of (Layout stamp sections) = length sections

-- In this call a request was refused of as many as a copy of an arrival asks for of which this is so.
abbrev pub CopyWasRefused : (Arrival → Type 0) → Type 0
CopyWasRefused IsSaid = (arrival : Arrival) × IsSaid arrival × WasRefused (wanted_of arrival)

-- Something is made where an arrival of which this is so takes no memory to be kept.
abbrev pub IsMadeInPlace : (Arrival → Type 0) → (Made : Type 0) → Type 0
IsMadeInPlace IsSaid Made = (arrival : Arrival) × IsSaid arrival × (takes_no_memory arrival ≡ true → Made)
