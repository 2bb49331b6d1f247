-- Counters of what failed.
use Rattle.std.specs.Prelude.{◌≡◌, ◌⊎◌, ◌<◌, ◌-◌, ◌^◌, ℕ}

-- The counter rose, or it is at its greatest value, where it stays.
abbrev pub HasRisen : (before after : ℕ) → Type 0
HasRisen before after = (before < after) ⊎ (after ≡ 2 ^ 64 - 1)
