-- What a store makes of the bytes of a mark file, done or stopped. It writes the slot that doesn't hold the mark.
use Rattle.std.specs.Prelude.{ℕ, ◌+◌, if◌then◌else◌, Bool, List, [], ◌∷◌, replicate}
use Rattle.pdc_disk.specs.Disk.{written}
use Rattle.pdc_mark.specs.declared.disk_mark.stopped.TheConstants.{TORN}
use Rattle.pdc_mark.specs.declared.layout.TheConstants.{CLOSED, FIELDS_AT, FIELDS_LEN, OPEN}
use Rattle.pdc_mark.specs.declared.slot.Place.{Place}
use Rattle.pdc_mark.specs.declared.slot.Slot.{Slot}
use Rattle.pdc_mark.specs.Slots.{fields_of, held_in, is_open, offset_of, other_of}

-- with this gate before the slot in this place
abbrev pub with_gate : List ℕ → Place → ℕ → List ℕ
with_gate bytes place gate = written bytes (offset_of place) (gate ∷ [])

-- with these fields in the slot in this place
abbrev pub with_fields : List ℕ → Place → List ℕ → List ℕ
with_fields bytes place fields = written bytes (offset_of place + FIELDS_AT) fields

-- with the slot in this place closed, whose gate is written only where it is open
abbrev pub with_closed : List ℕ → Place → List ℕ
with_closed bytes place = if is_open bytes (offset_of place) then with_gate bytes place CLOSED else bytes

-- after a whole store: the fields of the new mark stand behind an open gate
abbrev pub file_after : List ℕ → Slot → List ℕ
file_after bytes mark = with_gate (with_fields bytes (other_of (held_in bytes)) (fields_of mark)) (other_of (held_in bytes)) OPEN

-- after a stop behind the write of the fields, which then hold A5 throughout: they stand behind a closed gate
abbrev pub file_torn : List ℕ → List ℕ
file_torn bytes = with_fields (with_closed bytes (other_of (held_in bytes))) (other_of (held_in bytes)) (replicate FIELDS_LEN TORN)

-- after a stop in a store of this mark, by whether it landed
abbrev pub file_stopped : Bool → List ℕ → Slot → List ℕ
file_stopped landed bytes mark = if landed then file_after bytes mark else file_torn bytes
