-- Nearest multiples, by inequalities that `omega` reads.
use Rattle.std.proofs.Common.{◌≡◌, ℕ, ◌+◌, ◌*◌, ◌/◌, ◌-◌, ◌<◌, ◌≤◌, ◌≢◌, inl, inr, arith, sym, ap, ◌%◌}
use Rattle.std.proofs.Math.Nat.{mul-le-mul_right, div-add-mod, mod-lt}
use Rattle.std.proofs.lemmas.Bool.{cases_order, cases_lt}
use Rattle.std.specs.Int.{abs_diff}
use Rattle.pdc_frame.specs.Nearest.{IsNearest, nearest_of}

-- k * step lies within half a step of x, and below it by less than half a step
pub record IsHalfOff (x step k : ℕ) : Type 0 where
  pub above : 2 * (k * step) ≤ 2 * x + step
  pub below : 2 * x < 2 * (k * step) + step

pub step_apart : (j k step : ℕ) → j < k → j * step + step ≤ k * step
step_apart j k step h = let e : (j + 1) * step ≤ k * step = mul-le-mul_right {m = j + 1} {n = k} step (omega arith) in omega (arith, e)

-- the distances, as omega reads them
half_near : (x step m n : ℕ) → 2 * m ≤ 2 * x + step → 2 * x < 2 * m + step → m + step ≤ n → abs_diff x m < abs_diff x n
half_near x step m n a b h = omega arith

half_far : (x step m n : ℕ) → 2 * m ≤ 2 * x + step → 2 * x < 2 * m + step → n + step ≤ m → abs_diff x m ≤ abs_diff x n
half_far x step m n a b h = omega arith

pub IsNearest-from_half : (x step k : ℕ) → IsHalfOff x step k → IsNearest x step k
IsNearest-from_half x step k h = record {
  nearest = λ j. elim (cases_order j k) [
    | inl e ↦ omega (arith, ap (λ n. n * step) e)
    | inr d ↦ elim d [
      | inl l ↦ half_far x step (k * step) (j * step) h.above h.below (step_apart j k step l)
      | inr g ↦ let f : abs_diff x (k * step) < abs_diff x (j * step) = half_near x step (k * step) (j * step) h.above h.below (step_apart k j step g) in omega arith
    ]
  ];
  upper = λ j same. elim (cases_lt k j) [
    | inl g ↦ let f : abs_diff x (k * step) < abs_diff x (j * step) = half_near x step (k * step) (j * step) h.above h.below (step_apart k j step g) in absurd (omega arith)
    | inr l ↦ l
  ];
}

next_step : (k step : ℕ) → (k + 1) * step ≡ k * step + step
next_step k step = omega arith

last_step : (k step : ℕ) → 0 < k * step → (k - 1) * step + step ≡ k * step
last_step k step p = elim (cases_lt 0 k) [
  | inl some ↦ let e : (k - 1 + 1) * step ≡ k * step = ap (λ n. n * step) (omega arith) in omega (arith, e)
  | inr none ↦ let e : k * step ≡ 0 * step = ap (λ n. n * step) (omega arith) in absurd (omega (arith, e))
]

-- the distances again: a step up or down is no nearer
above_half : (x step m n : ℕ) → 0 < step → n + step ≡ m → abs_diff x m ≤ abs_diff x n → 2 * m ≤ 2 * x + step
above_half x step m n p e near = omega arith

below_half : (x step m n : ℕ) → 0 < step → m + step ≡ n → abs_diff x m ≤ abs_diff x n → abs_diff x n ≢ abs_diff x m → 2 * x < 2 * m + step
below_half x step m n p e near apart = omega arith

pub half-from_nearest : (x step k : ℕ) → 0 < step → IsNearest x step k → IsHalfOff x step k
half-from_nearest x step k p h = record {
  above = elim (cases_lt 0 (k * step)) [
    | inl some ↦ above_half x step (k * step) ((k - 1) * step) p (last_step k step some) (h.nearest (k - 1))
    | inr none ↦ omega arith
  ];
  below = below_half x step (k * step) ((k + 1) * step) p (sym (next_step k step)) (h.nearest (k + 1)) (λ same. let up : k + 1 ≤ k = h.upper (k + 1) same in omega arith);
}

pub IsHalfOff-nearest_of : (x step : ℕ) → 0 < step → IsHalfOff x step (nearest_of x step)
unfolding nearest_of
IsHalfOff-nearest_of x step p =
    let whole : 2 * step * ((2 * x + step) / (2 * step)) + (2 * x + step) % (2 * step) ≡ 2 * x + step = div-add-mod (2 * x + step) (2 * step) in
    let rest : (2 * x + step) % (2 * step) < 2 * step = mod-lt (2 * x + step) (omega arith) in
    record { above = omega arith; below = omega arith }

pub unique_nearest : (x step k j : ℕ) → IsNearest x step k → IsNearest x step j → k ≡ j
unique_nearest x step k j h i =
    let near : abs_diff x (k * step) ≤ abs_diff x (j * step) = h.nearest j in
    let near' : abs_diff x (j * step) ≤ abs_diff x (k * step) = i.nearest k in
    let same : abs_diff x (k * step) ≡ abs_diff x (j * step) = omega arith in
    let low : k ≤ j = i.upper k same in
    let high : j ≤ k = h.upper j (sym same) in
    omega arith

-- what is nearest is computed
pub nearest_of-is : (x step k : ℕ) → 0 < step → IsNearest x step k → nearest_of x step ≡ k
nearest_of-is x step k p h = unique_nearest x step (nearest_of x step) k (IsNearest-from_half x step (nearest_of x step) (IsHalfOff-nearest_of x step p)) h
