-- How long ago something was, by a clock that never goes back.
use Rattle.std.specs.Prelude.{◌≡◌, refl, ℕ, ◌*◌, ◌-◌, Bool, true, false, nat_le, Option, None, Some}
use Rattle.std.specs.Time.{instant_nanos}
use Rattle.std.specs.declared.time.Instant.{Instant}
use Rattle.pdc_journal.specs.declared.moment.Moment.{Moment}

-- from one reading to a later one, if both are known; nothing from a later to an earlier one
abbrev pub between : (before now : Option Instant) → Option ℕ
between (Some before) (Some now) = Some (instant_nanos now - instant_nanos before)
between (Some before) None = None
between None now = None

-- how many nanoseconds lie between two moments
abbrev pub gap : (before now : Moment) → Option ℕ
gap before now = between before.at now.at

-- a gap has so many seconds: 60 of them are in 60 000 000 000 nanoseconds, not in one nanosecond less, and not in a gap that is unknown
abbrev pub has_seconds : (seconds : ℕ) → (gap : Option ℕ) → Bool
has_seconds seconds (Some nanoseconds) = nat_le (seconds * 1_000_000_000) nanoseconds
has_seconds seconds None = false

pub a_minute : has_seconds 60 (Some 60_000_000_000) ≡ true
a_minute = refl

pub just_before : has_seconds 60 (Some 59_999_999_999) ≡ false
just_before = refl

-- so many seconds lie between a moment and now
abbrev pub is_past : (seconds : ℕ) → (before now : Moment) → Bool
is_past seconds before now = has_seconds seconds (gap before now)

-- what was done last at a moment, or never, was not done within so many seconds before now
abbrev pub is_long_ago : (seconds : ℕ) → (last : Option Moment) → (now : Moment) → Bool
is_long_ago seconds None now = true
is_long_ago seconds (Some last) now = is_past seconds last now
