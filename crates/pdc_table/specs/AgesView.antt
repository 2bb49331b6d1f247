-- What contracts see of the ages at the places of a ring.
use Rattle.std.specs.Prelude.{ℕ, ◌-◌, List, map}

-- the age at each place, and how many places the buffer has
pub record AgesView : Type 0 where
  pub items : List ℕ
  pub capacity : ℕ

-- the ages after so many ticks, where each was 0 after so many
abbrev pub ages_at : (ticks : ℕ) → (since : List ℕ) → List ℕ
ages_at ticks since = map (λ n. ticks - n) since

-- the count of ticks before this one; at the first there is none
abbrev pub earlier : ℕ → ℕ
earlier ticks = ticks - 1
