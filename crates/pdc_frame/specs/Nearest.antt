-- The nearest multiple of a step: what "nearest" means for slots and for tags.
use Rattle.std.specs.Prelude.{◌≡◌, ℕ, ◌*◌, ◌+◌, ◌/◌, ◌≤◌}
use Rattle.std.specs.Int.{abs_diff}

-- Among all multiples of the step, number k lies nearest to x; of two that are equally near it is the upper.
-- Worked values: x = 7, step 4: 2 * 4 is 1 off, 1 * 4 is 3 off, so k = 2. x = 6, step 4: both are 2 off, so k = 2.
pub record IsNearest (x step k : ℕ) : Type 0 where
  pub nearest : (j : ℕ) → abs_diff x (k * step) ≤ abs_diff x (j * step)
  pub upper : (j : ℕ) → abs_diff x (j * step) ≡ abs_diff x (k * step) → j ≤ k

-- The same by computing, for a step above 0: x and half a step, in whole steps. The contract of `nearest` (src/nearest.rt)
-- says both of its result; the laws `slot_is_nearest` and `tag_is_nearest` say of all numbers that what is computed is nearest.
unfoldable pub nearest_of : ℕ → ℕ → ℕ
nearest_of x step = (2 * x + step) / (2 * step)
