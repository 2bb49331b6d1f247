-- The mark file, version 2: 256 bytes, two slots of 128, each behind a gate.
use Rattle.std.specs.Prelude.{◌≡◌, ◌⊎◌, ℕ, ◌+◌, ◌-◌, ◌<◌, ◌^◌, ◌==◌, if◌then◌else◌, Bool, true, not, List, ◌∷◌, ◌++◌, length, replicate, slice_index, slice_range, Option, Some, None}
use Rattle.std.specs.Int.{w16, w32, w64, from_be_bytes, to_be_bytes}
use Rattle.pdc_disk.specs.Disk.{AllSettled}
use Rattle.pdc_mark.specs.declared.layout.TheConstants.{MARK_LEN, COUNTS, SLOT_LEN, FIELDS_AT, RATE_AT, START_AT, FLOOR_AT, COUNTS_AT, FIELDS_LEN, FIELDS_END, REST_LEN, OPEN}
use Rattle.pdc_mark.specs.declared.slot.Slot.{Slot}
use Rattle.pdc_mark.specs.declared.slot.Place.{Place}
use Rattle.pdc_mark.specs.declared.slot.Place.TheVariants.{First, Second}
use Rattle.pdc_mark.specs.Counts.{count_bytes, counts_of}
use Rattle.pdc_mark.specs.Stored.{is_below}

-- where a slot begins
abbrev pub offset_of : Place → ℕ
offset_of First = 0
offset_of Second = SLOT_LEN

abbrev pub other_of : Place → Place
other_of First = Second
other_of Second = First

-- a slot's fields before the counts
abbrev pub numbers_of : Slot → List ℕ
numbers_of slot = to_be_bytes w16 slot.id ++ to_be_bytes w16 slot.rate ++ to_be_bytes w32 slot.stored.start ++ to_be_bytes w64 slot.stored.floor

-- The bytes of a slot's fields. Of 201, 50, 1, 57478860001 and counts 1, 1 they begin with
-- 00C9 0032 00000001 0000000D6201CCE1 0001 0001.
abbrev pub fields_of : Slot → List ℕ
fields_of slot = numbers_of slot ++ count_bytes slot.stored.counts

-- each field fits its width
pub record FitsWidths (slot : Slot) : Type 0 where
  pub id : slot.id < 2 ^ 16
  pub rate : slot.rate < 2 ^ 16
  pub start : slot.stored.start < 2 ^ 32
  pub floor : slot.stored.floor < 2 ^ 64
  pub counts : length slot.stored.counts ≡ COUNTS
  pub count : (i : ℕ) → slice_index slot.stored.counts i < 2 ^ 16

-- a whole slot: gate, 7 zero bytes, fields, 72 zero bytes
abbrev pub slot_bytes : ℕ → Slot → List ℕ
slot_bytes gate slot = gate ∷ replicate (FIELDS_AT - 1) 0 ++ fields_of slot ++ replicate REST_LEN 0

-- what the bytes before the counts say, beside these counts
abbrev pub slot_with : List ℕ → List ℕ → Slot
slot_with counts numbers = record {
  id = from_be_bytes w16 (slice_range numbers 0 RATE_AT);
  rate = from_be_bytes w16 (slice_range numbers RATE_AT START_AT);
  stored = record {
    start = from_be_bytes w32 (slice_range numbers START_AT FLOOR_AT);
    floor = from_be_bytes w64 (slice_range numbers FLOOR_AT COUNTS_AT);
    counts = counts;
  };
}

-- what a slot's bytes of fields say
abbrev pub slot_of : List ℕ → Slot
slot_of fields = slot_with (counts_of (slice_range fields COUNTS_AT FIELDS_LEN)) fields

-- what the fields of the slot that begins here say, whatever its gate
abbrev pub slot_at : List ℕ → ℕ → Slot
slot_at bytes at = slot_of (slice_range bytes (at + FIELDS_AT) (at + FIELDS_END))

-- what the fields of the slot in this place say
abbrev pub slot_in : List ℕ → Place → Slot
slot_in bytes place = slot_at bytes (offset_of place)

-- the gate is open, 5A
abbrev pub is_open : List ℕ → ℕ → Bool
is_open bytes at = slice_index bytes at == OPEN

abbrev pub open_slot : List ℕ → ℕ → Option Slot
open_slot bytes at = if is_open bytes at then Some (slot_at bytes at) else None

-- the greater, and of equal ones the first
abbrev pub greatest : Option Slot → Option Slot → Option Slot
greatest None b = b
greatest (Some a) None = Some a
greatest (Some a) (Some b) = if is_below a.stored b.stored then Some b else Some a

-- the mark: the greatest open slot
abbrev pub mark_of : List ℕ → Option Slot
mark_of bytes = greatest (open_slot bytes 0) (open_slot bytes SLOT_LEN)

-- the place of the greater, and of equal ones the first
abbrev pub place_of : Option Slot → Option Slot → Place
place_of None b = Second
place_of (Some a) None = First
place_of (Some a) (Some b) = if is_below a.stored b.stored then Second else First

-- the place that holds the mark
abbrev pub held_in : List ℕ → Place
held_in bytes = place_of (open_slot bytes 0) (open_slot bytes SLOT_LEN)

-- the bytes are a mark file, and this is its mark
pub record HasMark (bytes : List ℕ) (mark : Option Slot) : Type 0 where
  pub size : length bytes ≡ MARK_LEN
  pub holds : mark_of bytes ≡ mark

-- the bytes have this mark
abbrev pub HasJust : Slot → List ℕ → Type 0
HasJust slot bytes = HasMark bytes (Some slot)

-- the bytes have the old mark or the new one
abbrev pub HasEither : Slot → Slot → List ℕ → Type 0
HasEither old new bytes = HasJust old bytes ⊎ HasJust new bytes

-- The mark stands in this place, all is settled, and the other place is closed or it is open.
pub record IsHeld (seen : List ℕ) (is_settled : ℕ → Bool) (place : Place) (is_closed : Bool) : Type 0 where
  pub size : length seen ≡ MARK_LEN
  pub settled : AllSettled is_settled
  pub here : is_open seen (offset_of place) ≡ true
  pub mark : mark_of seen ≡ Some (slot_at seen (offset_of place))
  pub holds : held_in seen ≡ place
  pub other : is_open seen (offset_of (other_of place)) ≡ not is_closed
