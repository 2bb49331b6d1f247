-- Ticks that come late, and data that waits for them.
use Rattle.std.specs.Prelude.{◌≡◌, refl, ℕ, ◌-◌, List, Option, None, Some, option_map, nat_le, if◌then◌else◌}
use Rattle.pdc_journal.specs.Head.{data_instant_in}
use Rattle.pdc_journal.specs.Moment.{gap}
use Rattle.pdc_journal.specs.declared.moment.Moment.{Moment}

-- How long ago something was, in nanoseconds; 0 where it never was, or is not known.
abbrev pub or_nothing : Option ℕ → ℕ
or_nothing None = 0
or_nothing (Some nanoseconds) = nanoseconds

abbrev pub time_since : Option Moment → (now : Moment) → ℕ
time_since None now = 0
time_since (Some moment) now = or_nothing (gap moment now)

-- Data of an instant is ahead at a tick whose now lies more than `ahead` instants below it. So the least now that takes it is that many
-- instants below its own, and 0 for those of the first instants.
abbrev pub least_now : (rate time_base ahead : ℕ) → List ℕ → Option ℕ
least_now rate time_base ahead bytes = option_map (λ instant. instant - ahead) (data_instant_in rate time_base bytes)

-- a now that a tick had not reached: with 2 instants ahead, data of instant 100 waits for 98 where the last now was 97, not where it was 98
abbrev pub not_reached : (last : ℕ) → Option ℕ → Option ℕ
not_reached last None = None
not_reached last (Some least) = if nat_le least last then None else Some least

pub below : not_reached 97 (Some (100 - 2)) ≡ Some 98
below = refl

pub reached : not_reached 98 (Some (100 - 2)) ≡ None
reached = refl

-- which now data waits for after a tick with this now
abbrev pub awaited : (rate time_base ahead : ℕ) → List ℕ → (last : ℕ) → Option ℕ
awaited rate time_base ahead bytes last = not_reached last (least_now rate time_base ahead bytes)
