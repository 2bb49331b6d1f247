-- The instant of a time tag: the number of its frame since SOC 0, at a fixed rate.
use Rattle.std.specs.Prelude.{◌≡◌, ℕ, ◌*◌, ◌+◌, Option, option_map}
use Rattle.pdc_frame.specs.Slot.{IsSlot, slot_of}

-- rate instants a second, and the slot within it. SOC counts seconds (C37.118.2-2011, 6.2, table 2).
-- Worked values: SOC 1149577200, frac 20000 of 1000000 at 50 frames a second is slot 1: 1149577200 * 50 + 1 =
-- 57478860001. The greatest: SOC 4294967295, slot 239 at 240 frames a second, is 1030792151039.
pub record IsInstant (soc frac time_base rate instant : ℕ) : Type 0 where
  pub slot : ℕ
  pub is_slot : IsSlot frac time_base rate slot
  pub is_instant : instant ≡ soc * rate + slot

-- The same by computing. `instant_is_nearest` is the law that both are one.
unfoldable pub instant_of : ℕ → ℕ → ℕ → ℕ → Option ℕ
instant_of soc frac time_base rate = option_map (λ k. soc * rate + k) (slot_of frac time_base rate)
