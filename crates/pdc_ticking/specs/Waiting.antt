-- How a ticker waits that may be woken before its deadline: between two deadlines it gives one tick.
use Rattle.std.specs.Prelude.{◌≡◌, refl, ℕ, Bool, true, false, Option, None, Some, ◌+◌, ◌-◌, ◌*◌, ◌≤◌, ◌<◌, nat_le}
use Rattle.pdc_ticking.specs.Deadlines.{IsNextDeadline}
use Rattle.pdc_ticking.specs.declared.waiting.Waiting.{Waiting}
use Rattle.pdc_ticking.specs.declared.waiting.Waiting.TheVariants.{Sleep, ForWake}

-- The tick of a deadline was given before it: it lies above the moment, and is no later than the second deadline above it. One that lies
-- further above was given before the clock was set back by more than the time between two deadlines, and counts for nothing.
pub record IsEarly (first span parts moment given : ℕ) : Type 0 where
  pub above : moment < given
  pub near : (next after : ℕ) → IsNextDeadline first span parts moment next → IsNextDeadline first span parts next after
      → given ≤ after

-- How it waits at a moment, if the last tick was that of the deadline `given`. Of deadlines 20 ms apart from 0 on, at 205 ms: it waits to be woken
-- for 15 ms if it gave the tick of 200 ms. If it was woken and gave that of 220 ms, it gives none for 15 ms. If the clock was set back by 20 ms
-- since, up to 40 ms take the place of these 15; by 40, it waits to be woken for 15.
abbrev pub IsWaiting : (first span parts moment given : ℕ) → Waiting → Type 0
IsWaiting first span parts moment given (Sleep n) = IsEarly first span parts moment given × (moment + n ≡ given)
IsWaiting first span parts moment given (ForWake n) =
    (IsEarly first span parts moment given → ⊥) × IsNextDeadline first span parts moment (moment + n)

-- how far two moments lie apart
abbrev pub apart : ℕ → ℕ → ℕ
apart one other = (one - other) + (other - one)

-- A call is late that came behind the tick of its time: at the next deadline it had waited for so long. It is left for the call after it, if the
-- last one was left so long ago that calls since, each as late as this one, would have waited for ten lengths from one deadline to the
-- next. The first one is left.
abbrev pub leaves : (length moment late : ℕ) → (left : Option ℕ) → Bool
leaves length moment late None = nat_le 1 late
leaves length moment late (Some left) = nat_le (10 * (length * length)) (apart moment left * late)

-- Worked, with 20 ms from one deadline to the next: a call that waited for 10 ms is left 400 ms after the one before, and not sooner; one that
-- waited for 1 ms is left 4 s after it.
pub half : leaves 20 1400 10 (Some 1000) ≡ true
half = refl

pub sooner : leaves 20 1399 10 (Some 1000) ≡ false
sooner = refl

pub a_little : leaves 20 5000 1 (Some 1000) ≡ true
a_little = refl

pub in_time : leaves 20 5000 0 None ≡ false
in_time = refl
