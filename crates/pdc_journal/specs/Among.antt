-- What a sink takes of what it is handed.
use Rattle.std.specs.Prelude.{◌≡◌, ◌⊎◌, ◌∷◌, ◌+◌, ◌-◌, ◌<◌, ◌^◌, ℕ, List, [], length}

-- the first are some of the second, in the same order
abbrev pub AreAmong : {A : Type 0} → (some all : List A) → Type 0
AreAmong some [] = some ≡ []
AreAmong {A} some (x ∷ all) = AreAmong some all ⊎ ((later : List A) × (some ≡ x ∷ later) × AreAmong later all)

-- As many of all as are not among the first were counted between these two values of a counter, which stays at its greatest value.
abbrev pub AreCounted : {A : Type 0} → (before now : ℕ) → (some all : List A) → Type 0
AreCounted before now some all = now < 2 ^ 64 - 1 → now + length some ≡ before + length all
