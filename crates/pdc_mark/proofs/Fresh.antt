-- A file of two slots as it is made: the first is open, the second is closed, and the counts are 0.
use Rattle.std.proofs.Common.{◌≡◌, ℕ, Bool, true, false, List, ◌++◌, length, replicate, Some, refl, ap, ◌∙◌, arith}
use Rattle.std.proofs.lemmas.List.{length-append}
use Rattle.pdc_disk.specs.Disk.{AllSettled}
use Rattle.pdc_mark.specs.declared.layout.TheConstants.{COUNTS, MARK_LEN, OPEN, SLOT_LEN}
use Rattle.pdc_mark.specs.declared.slot.Slot.{Slot}
use Rattle.pdc_mark.specs.declared.slot.Place.TheVariants.{First}
use Rattle.pdc_mark.specs.Counts.{count_bytes}
use Rattle.pdc_mark.specs.Slots.{is_open, slot_at, slot_bytes, FitsWidths, HasJust, IsHeld}
use Rattle.pdc_mark.proofs.Fields.{slot_of-fields_of}
use Rattle.pdc_mark.proofs.Marks.{held_alone, mark_alone}

-- a mark whose counts are 0
abbrev pub fresh : ℕ → ℕ → ℕ → ℕ → Slot
fresh id rate start floor = record { id = id; rate = rate; stored = record { start = start; floor = floor; counts = replicate COUNTS 0 } }

module _ (id rate start floor : ℕ) (fits : FitsWidths (fresh id rate start floor)) (second : List ℕ) (size : length second ≡ SLOT_LEN) (closed : is_open second 0 ≡ false) where
  abbrev pub made : List ℕ
  made = slot_bytes OPEN (fresh id rate start floor) ++ second

  length-made : length made ≡ MARK_LEN
  unfolding count_bytes
  length-made = let first : length (slot_bytes OPEN (fresh id rate start floor)) ≡ SLOT_LEN = refl in length-append (slot_bytes OPEN (fresh id rate start floor)) second ∙ omega (arith, first, size)

  other_made : is_open made SLOT_LEN ≡ false
  unfolding count_bytes
  other_made = closed

  pub slot_made : slot_at made 0 ≡ fresh id rate start floor
  unfolding count_bytes
  slot_made = slot_of-fields_of (fresh id rate start floor) fits

  pub held_made : (is_settled : ℕ → Bool) → AllSettled is_settled → IsHeld made is_settled First true
  held_made is_settled all = record {
    size = length-made;
    settled = all;
    here = refl;
    mark = mark_alone made First refl other_made;
    holds = held_alone made First refl other_made;
    other = other_made;
  }

  pub has_made : HasJust (fresh id rate start floor) made
  has_made = record { size = length-made; holds = mark_alone made First refl other_made ∙ ap Some slot_made }
