-- Which records of lives that are over are removed.
use Rattle.std.specs.Prelude.{◌≡◌, refl, ℕ, ◌+◌, Bool, true, false, List, [], ◌∷◌, nat_le, nat_lt}
use Rattle.std.specs.List.{prefix_len}

-- how many of these starts, which stand with the greatest first, are greater than this one
abbrev pub newer_than : (starts : List ℕ) → (start : ℕ) → ℕ
newer_than starts start = prefix_len (λ other. nat_lt start other) starts

-- Of the lives with these starts, which are over and stand with the greatest first, the one with this start is removed where so many lives
-- are kept: that which begins is the first of them, and those with greater starts come before this one.
abbrev pub is_removed : (kept : ℕ) → (starts : List ℕ) → (start : ℕ) → Bool
is_removed kept starts start = nat_le kept (newer_than starts start + 1)

abbrev over : List ℕ
over = 5 ∷ 4 ∷ 3 ∷ []

-- of three lives that are kept, the two with starts 5 and 4 stay beside that which begins
pub oldest_goes : is_removed 3 over 3 ≡ true
oldest_goes = refl

pub second_stays : is_removed 3 over 4 ≡ false
second_stays = refl

-- where one is kept, each that is over goes
pub newest_goes : is_removed 1 over 5 ≡ true
newest_goes = refl
