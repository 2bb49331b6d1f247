-- Which instant a time is.
use Rattle.std.specs.Prelude.{◌≡◌, refl, ℕ, ◌-◌, ◌*◌, ◌/◌, ◌^◌, min}

-- the last instant that was reached so many nanoseconds behind 1970, at so many frames in a second; the greatest of 64 bits where they do
-- not hold it
abbrev pub instant_of : (rate nanoseconds : ℕ) → ℕ
instant_of rate nanoseconds = min (nanoseconds * rate / 1_000_000_000) (2 ^ 64 - 1)

-- Worked: at 50 frames in a second an instant has 20 milliseconds.
pub of_20_ms : instant_of 50 20_000_000 ≡ 1
of_20_ms = refl

pub just_before : instant_of 50 19_999_999 ≡ 0
just_before = refl
