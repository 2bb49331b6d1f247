-- Lengths of time, counted by size. The bounds rise.
use Rattle.std.specs.Prelude.{◌≡◌, ℕ, ◌+◌, ◌-◌, ◌^◌, List, [], ◌∷◌, min, nat_lt, refl, slice_index_or, slice_set}
use Rattle.std.specs.List.{prefix_len}

-- the place of a length: so many bounds lie below it
abbrev pub place_in : List ℕ → ℕ → ℕ
place_in bounds length = prefix_len (λ bound. nat_lt bound length) bounds

-- a counter of 64 bits stays at its greatest value
abbrev pub counter : ℕ → ℕ
counter n = min n (2 ^ 64 - 1)

-- the counts with one more of this length
abbrev pub counted : List ℕ → (place : ℕ) → List ℕ
counted counts place = slice_set counts place (counter (slice_index_or counts place 0 + 1))

-- of bounds 10, 20 and 50: what is at most 10 stands in the first place, 11 in the second, and what is above 50 in the fourth
abbrev bounds : List ℕ
bounds = 10 ∷ 20 ∷ 50 ∷ []

pub at_the_first_bound : place_in bounds 10 ≡ 0
at_the_first_bound = refl

pub above_the_first_bound : place_in bounds 11 ≡ 1
above_the_first_bound = refl

pub above_all_bounds : place_in bounds 51 ≡ 3
above_all_bounds = refl
