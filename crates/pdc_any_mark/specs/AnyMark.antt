-- A mark of any owner: what a mark file has, and the same without its counts.
use Rattle.std.specs.Prelude.{ℕ, List, replicate}
use Rattle.pdc_mark.specs.declared.fault.MarkFault.{MarkFault}
use Rattle.pdc_mark.specs.Faults.{IsRefusal}
use Rattle.pdc_mark.specs.declared.layout.TheConstants.{COUNTS}
use Rattle.pdc_mark.specs.declared.slot.Slot.{Slot}
use Rattle.pdc_mark.specs.DiskMark.{with_stored}
use Rattle.pdc_mark.specs.Stored.{with_counts}
use Rattle.pdc_any_mark.specs.declared.any_mark.AnyMark.{AnyMark}

-- whose mark it is, and what it stores
abbrev pub slot_of : AnyMark → Slot
slot_of mark = record { id = mark.id; rate = mark.rate; stored = mark.stored }

-- the same owner, start number and floor, and counts 0
abbrev pub without_counts : Slot → Slot
without_counts slot = with_stored slot (with_counts slot.stored (replicate COUNTS 0))

-- Why a disk with these bytes is refused as the mark of some owner: each fault with its cause, where none before it holds.
abbrev pub IsRefusalOfSome : List ℕ → (before now : ℕ) → MarkFault → Type 0
IsRefusalOfSome bytes before now fault = (id : ℕ) × (rate : ℕ) × IsRefusal bytes id rate before now fault
