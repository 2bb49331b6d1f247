-- Lengths of time that were counted by bounds.
use Rattle.std.specs.Prelude.{◌≡◌, refl, ℕ, ◌+◌, ◌*◌, List, [], ◌∷◌, length, nat_lt, take_while}

-- The first place, of rising bounds, up to whose bound so many of a hundred of all lie: `within` has how many lie within each bound, and there are
-- `all`.
abbrev pub place_of_bound : (share all : ℕ) → (within : List ℕ) → ℕ
place_of_bound share all within = length (take_while (λ n. nat_lt (n * 100) (all * share)) within)

-- of eight lengths, three lie within the first bound and seven within the second: half of them within the second, and not all but one in a hundred
half : place_of_bound 50 8 (3 ∷ 7 ∷ 8 ∷ []) ≡ 1
half = refl

nearly_all : place_of_bound 99 8 (3 ∷ 7 ∷ 8 ∷ []) ≡ 2
nearly_all = refl
