-- Tags: one for each instant, and the instant of the tag is the instant.
use Rattle.std.proofs.Common.{◌≡◌, ℕ, ◌+◌, ◌*◌, ◌%◌, ◌<◌, ◌≤◌, Some, arith, sym, ap, ◌∙◌, subst, inl, inr}
use Rattle.std.proofs.Math.Nat.{mul-le-mul_right}
use Rattle.std.proofs.lemmas.Bool.{cases_lt}
use Rattle.std.proofs.lemmas.Nat.{same_from_place, mod_below, div-add-mod'}
use Rattle.pdc_frame.specs.Nearest.{IsNearest, nearest_of}
use Rattle.pdc_frame.specs.Instant.{IsInstant, instant_of}
use Rattle.pdc_frame.specs.Tag.{IsTag, tag_of}
use Rattle.pdc_frame.proofs.NearestLemmas.{IsHalfOff, IsNearest-from_half, IsHalfOff-nearest_of, half-from_nearest, unique_nearest, step_apart}
use Rattle.pdc_frame.proofs.SlotLemmas.{instant_of-IsInstant}

pub IsTag-tag_of : (i time_base rate : ℕ) → 0 < rate → IsTag i time_base rate (tag_of i time_base rate).0 (tag_of i time_base rate).1
unfolding tag_of
IsTag-tag_of i time_base rate p = record {
  slot = i % rate;
  in_second = mod_below i rate p;
  is_instant = div-add-mod' i rate;
  nearest = IsNearest-from_half (i % rate * time_base) rate (nearest_of (i % rate * time_base) rate) (IsHalfOff-nearest_of (i % rate * time_base) rate p);
}

pub unique_tag : (i time_base rate soc frac soc' frac' : ℕ) → IsTag i time_base rate soc frac → IsTag i time_base rate soc' frac' → (soc ≡ soc') × (frac ≡ frac')
unique_tag i time_base rate soc frac soc' frac' t u =
    let same = same_from_place soc t.slot soc' u.slot rate t.in_second u.in_second (t.is_instant ∙ sym u.is_instant) in
    (same.0, unique_nearest (u.slot * time_base) rate frac frac' (subst (λ k. IsNearest (k * time_base) rate frac) same.1 t.nearest) u.nearest)

-- the nearest count lies in the second
pub count_below : (i time_base rate soc frac : ℕ) → rate ≤ time_base → IsTag i time_base rate soc frac → frac < time_base
count_below i time_base rate soc frac l t =
    let half : IsHalfOff (t.slot * time_base) rate frac = half-from_nearest (t.slot * time_base) rate frac (let b : t.slot < rate = t.in_second in omega arith) t.nearest in
    let slot : t.slot * time_base + time_base ≤ rate * time_base = step_apart t.slot rate time_base t.in_second in
    elim (cases_lt frac time_base) [
      | inl below ↦ below
      | inr past ↦
          let far : time_base * rate ≤ frac * rate = mul-le-mul_right {m = time_base} {n = frac} rate past in
          let above : 2 * (frac * rate) ≤ 2 * (t.slot * time_base) + rate = half.above in
          let some : t.slot < rate = t.in_second in
          absurd (omega arith)
    ]

-- where the counts are the grid, the nearest count is no half off
equal_half : (rate time_base slot frac : ℕ) → 0 < rate → time_base ≡ rate → 2 * (frac * rate) ≤ 2 * (slot * time_base) + rate → 2 * (frac * rate) < 2 * (slot * time_base) + time_base
equal_half rate time_base slot frac p e a =
    let same : slot * time_base ≡ slot * rate = ap (λ n. slot * n) e in
    elim (cases_lt slot frac) [
      | inl up ↦ let far : slot * rate + rate ≤ frac * rate = step_apart slot frac rate up in absurd (omega arith)
      | inr low ↦ let near : frac * rate ≤ slot * rate = mul-le-mul_right {m = frac} {n = slot} rate low in omega arith
    ]

-- the count nearest to a slot has that slot as its nearest
back_half : (rate time_base slot frac : ℕ) → 0 < rate → rate ≤ time_base → IsHalfOff (slot * time_base) rate frac → IsHalfOff (frac * rate) time_base slot
back_half rate time_base slot frac p l h =
    let a : 2 * (frac * rate) ≤ 2 * (slot * time_base) + rate = h.above in
    let b : 2 * (slot * time_base) < 2 * (frac * rate) + rate = h.below in
    record {
      above = omega arith;
      below = elim (cases_lt rate time_base) [
        | inl less ↦ omega arith
        | inr same ↦ equal_half rate time_base slot frac p (omega arith) a
      ];
    }

pub IsInstant-IsTag : (i time_base rate soc frac : ℕ) → rate ≤ time_base → IsTag i time_base rate soc frac → IsInstant soc frac time_base rate i
IsInstant-IsTag i time_base rate soc frac l t =
    let some : t.slot < rate = t.in_second in
    let half : IsHalfOff (t.slot * time_base) rate frac = half-from_nearest (t.slot * time_base) rate frac (omega arith) t.nearest in
    let a : 2 * (frac * rate) ≤ 2 * (t.slot * time_base) + rate = half.above in
    let b : 2 * (t.slot * time_base) < 2 * (frac * rate) + rate = half.below in
    record {
      slot = t.slot;
      is_slot = record {
        in_second = count_below i time_base rate soc frac l t;
        nearest = IsNearest-from_half (frac * rate) time_base t.slot (back_half rate time_base t.slot frac (omega arith) l half);
        within_count = omega arith;
      };
      is_instant = sym t.is_instant;
    }

pub instant_of-tag_of : (i time_base rate : ℕ) → 0 < rate → rate ≤ time_base → instant_of (tag_of i time_base rate).0 (tag_of i time_base rate).1 time_base rate ≡ Some i
instant_of-tag_of i time_base rate p l = instant_of-IsInstant (tag_of i time_base rate).0 (tag_of i time_base rate).1 time_base rate i (IsInstant-IsTag i time_base rate (tag_of i time_base rate).0 (tag_of i time_base rate).1 l (IsTag-tag_of i time_base rate p))

pub tag_of-IsTag : (i time_base rate soc frac : ℕ) → 0 < rate → IsTag i time_base rate soc frac → tag_of i time_base rate ≡ (soc, frac)
unfolding tag_of
tag_of-IsTag i time_base rate soc frac p t =
    let same = unique_tag i time_base rate (tag_of i time_base rate).0 (tag_of i time_base rate).1 soc frac (IsTag-tag_of i time_base rate p) t in
    cc
