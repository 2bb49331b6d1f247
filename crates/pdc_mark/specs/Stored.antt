-- What a mark stores, how each store changes it, and the order of marks.
use Rattle.std.specs.Prelude.{ℕ, ◌+◌, ◌==◌, ◌||◌, ◌&&◌, nat_lt, if◌then◌else◌, Bool, List, Option, None, Some, replicate}
use Rattle.pdc_mark.specs.declared.layout.TheConstants.{COUNTS}
use Rattle.pdc_mark.specs.declared.stored.Stored.{Stored}
use Rattle.pdc_mark.specs.Counts.{are_below, raised_to}

-- before the first life
abbrev pub first_stored : Stored
first_stored = record { start = 0; floor = 0; counts = replicate COUNTS 0 }

-- of a life of this number
abbrev pub with_start : Stored → ℕ → Stored
with_start stored start = record stored { start = start }

-- of the next life
abbrev pub with_next_start : Stored → Stored
with_next_start stored = with_start stored (stored.start + 1)

-- after a reservation
abbrev pub with_floor : Stored → ℕ → Stored
with_floor stored floor = record stored { floor = floor }

-- after counts were raised
abbrev pub with_counts : Stored → List ℕ → Stored
with_counts stored counts = record stored { counts = counts }

-- After a reservation for an instant: where it is above the floor, it is the floor with so many instants behind it; else nothing changes.
abbrev pub with_instant : (lead instant : ℕ) → Stored → Stored
with_instant lead instant stored = if nat_lt stored.floor instant then with_floor stored (instant + lead) else stored

-- and where there is such an instant at all
abbrev pub with_due : (lead : ℕ) → Option ℕ → Stored → Stored
with_due lead None stored = stored
with_due lead (Some instant) stored = with_instant lead instant stored

-- after a raise to the greater of its counts and of those that wait
abbrev pub with_waiting : (waiting : List ℕ) → Stored → Stored
with_waiting waiting stored = with_counts stored (raised_to stored.counts waiting)

-- this is lower: by the start, then by the floor, then by the counts
abbrev pub is_below : Stored → Stored → Bool
is_below a b = nat_lt a.start b.start || ((a.start == b.start) && (nat_lt a.floor b.floor || ((a.floor == b.floor) && are_below a.counts b.counts)))
