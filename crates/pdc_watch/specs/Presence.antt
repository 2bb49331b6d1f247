-- What is told of a PMU on one path in a tenth of a second.
use Rattle.std.specs.Prelude.{◌≡◌, refl, ℕ, List, ◌+◌, ◌-◌, ◌*◌, ◌/◌, ◌%◌, nat_eq, nat_lt, min, if◌then◌else◌, slice_index_or, slice_set}
use Rattle.pdc_watch.specs.declared.cell.Cell.{Cell}
use Rattle.pdc_watch.specs.declared.cell.Cell.TheVariants.{NotDue, Absent, Gaps, Whole}
use Rattle.pdc_watch.specs.declared.slot.Slot.{Slot}

-- How many instants lie in a tenth of a second, counted from 1970, at a rate: those numbers k with tenth * rate ≤ 10 * k < (tenth + 1) * rate.
-- Ten tenths have as many as a second, so that the last digit decides.
abbrev pub due_in : (tenth rate : ℕ) → ℕ
due_in tenth rate = ((tenth % 10 + 1) * rate + 9) / 10 - (tenth % 10 * rate + 9) / 10

-- What so many frames with the PMU's data say, where so many were due.
abbrev pub cell_of : (came due : ℕ) → Cell
cell_of came due = if nat_eq due 0 then NotDue else if nat_eq came 0 then Absent else if nat_lt came due then Gaps else Whole

-- the frames that a slot counts of this tenth
abbrev pub came_in : Slot → (tenth : ℕ) → ℕ
came_in slot tenth = if nat_eq slot.tenth tenth then slot.came else 0

-- a slot with one more frame of this tenth; one of another tenth begins anew
abbrev pub noted : Slot → (tenth stat : ℕ) → Slot
noted slot tenth stat = record { tenth = tenth; came = min (came_in slot tenth + 1) 65535; stat = stat }

-- the slot of a tenth in a ring of 256
abbrev pub slot_in : List Slot → (tenth : ℕ) → Slot
slot_in slots tenth = slice_index_or slots (tenth % 256) (record { tenth = 0; came = 0; stat = 0 })

-- at 50 frames a second five are due in each tenth, at 25 three or two, at 1 one in a second
five_at_50 : due_in 17 50 ≡ 5
five_at_50 = refl

three_at_25 : due_in 20 25 ≡ 3
three_at_25 = refl

two_at_25 : due_in 21 25 ≡ 2
two_at_25 = refl

one_at_1 : due_in 30 1 ≡ 1
one_at_1 = refl

none_at_1 : due_in 31 1 ≡ 0
none_at_1 = refl

gaps : cell_of 4 5 ≡ Gaps
gaps = refl
