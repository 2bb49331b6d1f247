-- What is written into a slot's fields is read out of them.
use Rattle.std.proofs.Common.{◌≡◌, ℕ, List, length, slice_range, take, ap, ◌∙◌, arith}
use Rattle.std.proofs.lemmas.List.{length-append, take_all}
use Rattle.std.proofs.lemmas.Nat.{from_be_bytes-to_be_bytes_2, from_be_bytes-to_be_bytes_4, from_be_bytes-to_be_bytes_8}
use Rattle.std.specs.Int.{w16, w32, w64, from_be_bytes}
use Rattle.pdc_mark.specs.declared.layout.TheConstants.{COUNTS, COUNTS_AT, FIELDS_LEN}
use Rattle.pdc_mark.specs.declared.slot.Slot.{Slot}
use Rattle.pdc_mark.specs.Counts.{count_bytes, counts_of}
use Rattle.pdc_mark.specs.Slots.{fields_of, numbers_of, slot_of, FitsWidths}
use Rattle.pdc_mark.proofs.Counts.{counts_of-count_bytes, length-count_bytes}

pub length-fields_of : (slot : Slot) → length slot.stored.counts ≡ COUNTS → length (fields_of slot) ≡ FIELDS_LEN
length-fields_of slot long = length-append (numbers_of slot) (count_bytes slot.stored.counts) ∙ omega (arith, length-count_bytes slot.stored.counts, long)

make : ℕ → ℕ → ℕ → ℕ → List ℕ → Slot
make id rate start floor counts = record { id = id; rate = rate; stored = record { start = start; floor = floor; counts = counts } }

same_slot : (id rate start floor : ℕ) (counts : List ℕ) (slot : Slot) → id ≡ slot.id → rate ≡ slot.rate → start ≡ slot.stored.start → floor ≡ slot.stored.floor → counts ≡ slot.stored.counts
    → make id rate start floor counts ≡ slot
unfolding make
same_slot id rate start floor counts slot a b c d e =
    ap (λ n. make n rate start floor counts) a ∙ ap (λ n. make slot.id n start floor counts) b ∙ ap (λ n. make slot.id slot.rate n floor counts) c
    ∙ ap (λ n. make slot.id slot.rate slot.stored.start n counts) d ∙ ap (λ (cs : List ℕ). make slot.id slot.rate slot.stored.start slot.stored.floor cs) e

pub slot_of-fields_of : (slot : Slot) → FitsWidths slot → slot_of (fields_of slot) ≡ slot
unfolding make
slot_of-fields_of slot fits =
    let id : from_be_bytes w16 (slice_range (fields_of slot) 0 2) ≡ slot.id = from_be_bytes-to_be_bytes_2 slot.id fits.id in
    let rate : from_be_bytes w16 (slice_range (fields_of slot) 2 4) ≡ slot.rate = from_be_bytes-to_be_bytes_2 slot.rate fits.rate in
    let start : from_be_bytes w32 (slice_range (fields_of slot) 4 8) ≡ slot.stored.start = from_be_bytes-to_be_bytes_4 slot.stored.start fits.start in
    let floor : from_be_bytes w64 (slice_range (fields_of slot) 8 COUNTS_AT) ≡ slot.stored.floor = from_be_bytes-to_be_bytes_8 slot.stored.floor fits.floor in
    let rest : take 32 (count_bytes slot.stored.counts) ≡ count_bytes slot.stored.counts = take_all 32 (count_bytes slot.stored.counts) (omega (arith, length-count_bytes slot.stored.counts, fits.counts)) in
    let counts : counts_of (slice_range (fields_of slot) COUNTS_AT FIELDS_LEN) ≡ slot.stored.counts = ap counts_of rest ∙ counts_of-count_bytes slot.stored.counts fits.count in
    same_slot (from_be_bytes w16 (slice_range (fields_of slot) 0 2)) (from_be_bytes w16 (slice_range (fields_of slot) 2 4)) (from_be_bytes w32 (slice_range (fields_of slot) 4 8)) (from_be_bytes w64 (slice_range (fields_of slot) 8 COUNTS_AT)) (counts_of (slice_range (fields_of slot) COUNTS_AT FIELDS_LEN)) slot id rate start floor counts
