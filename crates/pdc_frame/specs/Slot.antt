-- The slot of a time tag: which of the frames of its second a tag stands for.
--
-- A tag counts frac parts of a second, each 1/time_base long: FRACSEC and TIME_BASE of C37.118.2-2011, 6.2 (tables 2
-- and 9). A stream of rate frames a second has the grid points k/rate. That a tag stands for the nearest one, and for
-- none that is a whole count off, is a rule of this profile.
use Rattle.std.specs.Prelude.{ℕ, ◌*◌, ◌<◌, Option, Some, None, nat_lt, ◌&&◌, if◌then◌else◌}
use Rattle.std.specs.Int.{abs_diff}
use Rattle.pdc_frame.specs.Nearest.{IsNearest, nearest_of}

-- How far the tag frac/time_base is from the grid point k/rate, in parts of 1/(time_base * rate) of a second.
-- One count, 1/time_base, is rate such parts; one step of the grid, 1/rate, is time_base of them.
abbrev pub distance_of : ℕ → ℕ → ℕ → ℕ → ℕ
distance_of frac time_base rate k = abs_diff (frac * rate) (k * time_base)

-- The grid point k/rate is the slot of the tag: the tag lies in its second, no grid point is nearer, the upper is taken
-- of two equally near, and the tag is less than one count off. The grid goes on past the second's end, so a tag that
-- is nearest to the second's end, k = rate, is a whole count off at least and has no slot.
-- Worked values at 30 frames a second, TIME_BASE 1000000 (parts of 1/30000000 s):
--   frac 33333: 999990, 10 from k = 1, so slot 1. 33334: 1000020, 20 from k = 1, so slot 1.
--   frac 66666: 1999980, 20 from k = 2, so slot 2. 66665: 1999950, 50 from k = 2: none, since 30 parts are one count.
--   frac 999999: 29999970, 30 from k = 30: none.
-- At 50 frames a second, TIME_BASE 50: frac 49 is slot 49, 50 is out of its second and has none. TIME_BASE 0: none.
-- At 3 frames a second, TIME_BASE 2: frac 1, half a second, is as near to 1/3 as to 2/3, so slot 2.
pub record IsSlot (frac time_base rate k : ℕ) : Type 0 where
  pub in_second : frac < time_base
  pub nearest : IsNearest (frac * rate) time_base k
  pub within_count : distance_of frac time_base rate k < rate

-- The same by computing. `slot_is_nearest` is the law that both are one.
unfoldable pub slot_of : ℕ → ℕ → ℕ → Option ℕ
slot_of frac time_base rate =
    let k = nearest_of (frac * rate) time_base in
    if nat_lt frac time_base && nat_lt (distance_of frac time_base rate k) rate then Some k else None
