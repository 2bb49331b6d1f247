-- The tag of an instant: the SOC and the count that a frame of the instant carries.
use Rattle.std.specs.Prelude.{◌≡◌, ℕ, ◌*◌, ◌+◌, ◌/◌, ◌%◌, ◌<◌}
use Rattle.pdc_frame.specs.Nearest.{IsNearest, nearest_of}

-- The instant is slot of the second soc, and frac is the count nearest to slot/rate: in parts of 1/(time_base * rate),
-- counts lie rate apart and the slot at slot * time_base; of two equally near the upper. (SOC and FRACSEC: C37.118.2-2011,
-- 6.2, table 2; the nearest count is a rule of this profile.)
-- Worked values at 30 frames a second, TIME_BASE 1000000: slot 1 is 33333.33 counts, so 33333; slot 2 is 66666.67, so 66667.
-- At 2 frames a second, TIME_BASE 3: slot 1 is 1.5 counts, so 2.
pub record IsTag (instant time_base rate soc frac : ℕ) : Type 0 where
  pub slot : ℕ
  pub in_second : slot < rate
  pub is_instant : soc * rate + slot ≡ instant
  pub nearest : IsNearest (slot * time_base) rate frac

-- The same by computing. `tag_is_nearest` is the law that both are one.
unfoldable pub tag_of : ℕ → ℕ → ℕ → ℕ × ℕ
tag_of instant time_base rate = (instant / rate, nearest_of (instant % rate * time_base) rate)
