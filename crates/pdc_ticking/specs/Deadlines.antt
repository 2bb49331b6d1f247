-- When ticks are due: at moments that lie a fixed length apart.
use Rattle.std.specs.Prelude.{◌≡◌, refl, ℕ, ◌+◌, ◌-◌, ◌*◌, ◌/◌, ◌≤◌, ◌<◌}

-- The moment of the deadline with this number, in nanoseconds: the first whole one that is not before so many times `span / parts` behind
-- the first deadline.
abbrev pub deadline_of : (first span parts number : ℕ) → ℕ
deadline_of first span parts number = first + (number * span + (parts - 1)) / parts

-- The first deadline above a moment.
pub record IsNextDeadline (first span parts moment deadline : ℕ) : Type 0 where
  pub number : ℕ
  pub is : deadline ≡ deadline_of first span parts number
  pub later : moment < deadline
  pub least : (n : ℕ) → moment < deadline_of first span parts n → deadline ≤ deadline_of first span parts n

-- Worked: at 240 frames in a second deadlines lie 4166666 nanoseconds apart, so that a minute has 14400 of them. Five milliseconds behind
-- each instant, the one behind instant 1 is due at 9166667, the first whole nanosecond that is not before it, and that behind instant 240
-- at one second and 5 milliseconds.
pub a_minute : 60_000_000_000 / (1_000_000_000 / 240) ≡ 14400
a_minute = refl

pub behind_1 : deadline_of 5_000_000 1_000_000_000 240 1 ≡ 9_166_667
behind_1 = refl

pub behind_240 : deadline_of 5_000_000 1_000_000_000 240 240 ≡ 1_005_000_000
behind_240 = refl
