-- Which entries are steps that a file carries over.
use Rattle.std.specs.Prelude.{ℕ, Bool, true, false, ◌&&◌, nat_lt}
use Rattle.pdc_record.specs.declared.entry.What.{What}
use Rattle.pdc_record.specs.declared.entry.What.TheVariants as what
use Rattle.pdc_record.specs.declared.entry.Entry.{Entry}

-- what changes what a core knows, but for a pop
abbrev pub is_kept : What → Bool
is_kept (what.Arrived stream outcome datagram) = true
is_kept (what.Ticked now counts closed change used_up) = true
is_kept other = false

-- a datagram or a tick from before the first step of the file
abbrev pub is_carried : Entry → (first : ℕ) → Bool
is_carried entry first = nat_lt entry.step first && is_kept entry.what
