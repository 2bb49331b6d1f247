-- The ticks of a ticker that may be woken.
use Rattle.std.specs.Prelude.{◌≡◌, ℕ, Option, Some, ◌+◌, ◌-◌, ◌/◌, ◌^◌, ◌≤◌, ◌<◌, min, if◌then◌else◌}
use Rattle.pdc_ticking.specs.Paces.{first_of, parts_of, span_of}
use Rattle.pdc_ticking.specs.Waiting.{IsWaiting, leaves}
use Rattle.pdc_ticking.specs.declared.deadlines.Deadlines.{Deadlines}
use Rattle.pdc_ticking.specs.declared.found.Found.{Found}
use Rattle.pdc_ticking.specs.declared.found.Given.{Given}
use Rattle.pdc_ticking.specs.declared.waiting.Waiting.{Waiting}
use Rattle.pdc_ticking.specs.declared.waiting.Waiting.TheVariants.{ForWake}

-- how it waits by these deadlines
abbrev pub WaitsBy : Deadlines → (moment given : ℕ) → Waiting → Type 0
WaitsBy deadlines moment given waiting = IsWaiting (first_of deadlines) (span_of deadlines) (parts_of deadlines) moment given waiting

-- It found that it has a tick to give: it did not give that of a deadline above the moment, and the next deadline lies so far ahead.
abbrev pub IsFound : Deadlines → (given : ℕ) → Found → Type 0
IsFound deadlines given found = WaitsBy deadlines found.moment given (ForWake found.wait)

-- What it notes behind a tick, by what it found: the tick was that of the next deadline. A late call that was left was left at that moment.
pub record IsNoted (deadlines : Deadlines) (found : Found) (before after : Given) : Type 0 where
  pub deadline : after.deadline ≡ min (found.moment + found.wait) (2 ^ 64 - 1)
  pub left : after.left
      ≡ (if leaves (span_of deadlines / parts_of deadlines) found.moment found.late before.left then Some found.moment else before.left)

-- The tick is that of a deadline above that of the tick before, if the clock was not set back behind that one. So no two ticks are those of one
-- deadline, and ten times from a deadline to the next have ten ticks at most. (In 584 years 64 bits hold no more nanoseconds.)
abbrev pub IsLater : Found → (before after : Given) → Type 0
IsLater found before after = before.deadline ≤ found.moment → found.moment + found.wait < 2 ^ 64 → before.deadline < after.deadline
