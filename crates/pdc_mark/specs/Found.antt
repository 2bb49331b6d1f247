-- The mark of a file, and where it stands.
use Rattle.std.specs.Prelude.{◌≡◌, ℕ, true, not, List, Some}
use Rattle.pdc_mark.specs.declared.find.Found.{Found}
use Rattle.pdc_mark.specs.Slots.{held_in, is_open, mark_of, offset_of, other_of, slot_at}

-- the slot is the mark, its place holds it, and the other gate is closed or it is open
pub record IsFound (bytes : List ℕ) (found : Found) : Type 0 where
  pub mark : mark_of bytes ≡ Some found.slot
  pub holds : held_in bytes ≡ found.held
  pub slot : slot_at bytes (offset_of found.held) ≡ found.slot
  pub here : is_open bytes (offset_of found.held) ≡ true
  pub other : is_open bytes (offset_of (other_of found.held)) ≡ not found.is_other_closed
