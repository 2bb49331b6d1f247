-- What the mark of a file of version 1 shows of itself.
use Rattle.pdc_mark.specs.declared.slot.Slot.{Slot}
use Rattle.pdc_mark.specs.declared.version_1.OldMark.{OldMark}

-- whose mark it is, and what it stores
abbrev pub slot_in_old : OldMark → Slot
slot_in_old mark = mark.slot
