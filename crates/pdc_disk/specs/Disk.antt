-- What the calls of a disk do to its bytes, and what a stop may leave of them.
use Rattle.std.specs.Prelude.{◌≡◌, ◌⊎◌, ℕ, ◌+◌, ◌<◌, ◌≤◌, max, Bool, IsTrue, List, ◌++◌, length, take, drop, slice_index, Result, OnOk, OnErr}

-- these bytes with others put over them from this place on: the write of 7 8 at 1 over 1 2 3 gives 1 7 8
abbrev pub written : List ℕ → ℕ → List ℕ → List ℕ
written old at bytes = take at old ++ bytes ++ drop (at + length bytes) old

-- The new bytes are the old ones but for n of them from this place on. They may lie past the old end.
pub record IsTorn (old : List ℕ) (at n : ℕ) (new : List ℕ) : Type 0 where
  pub no_shorter : length old ≤ length new
  pub no_longer : length new ≤ max (length old) (at + n)
  pub before : (i : ℕ) → i < at → slice_index new i ≡ slice_index old i
  pub after : (i : ℕ) → at + n ≤ i → slice_index new i ≡ slice_index old i

-- What a stop may leave: each settled byte as it is. Any byte may stand elsewhere, and at the end none.
pub record IsImage (seen : List ℕ) (is_settled : ℕ → Bool) (image : List ℕ) : Type 0 where
  pub no_longer : length image ≤ length seen
  pub long : (i : ℕ) → i < length seen → IsTrue (is_settled i) → i < length image
  pub same : (i : ℕ) → i < length image → IsTrue (is_settled i) → slice_index image i ≡ slice_index seen i

-- whatever a stop leaves has this property
abbrev pub Leaves : List ℕ → (ℕ → Bool) → (List ℕ → Type 0) → Type 0
Leaves seen is_settled P = (image : List ℕ) → IsImage seen is_settled image → P image

-- what was settled still is
abbrev pub StaySettled : (ℕ → Bool) → (ℕ → Bool) → Type 0
StaySettled old new = (i : ℕ) → IsTrue (old i) → IsTrue (new i)

-- what was settled still is, but for n bytes from this place on
abbrev pub StaySettledBut : ℕ → ℕ → (ℕ → Bool) → (ℕ → Bool) → Type 0
StaySettledBut at n old new = (i : ℕ) → (i < at) ⊎ (at + n ≤ i) → IsTrue (old i) → IsTrue (new i)

-- every byte is settled: a stop leaves what reads give
abbrev pub AllSettled : (ℕ → Bool) → Type 0
AllSettled is_settled = (i : ℕ) → IsTrue (is_settled i)

-- the count of failures rose, or stands at the greatest number that it can tell
abbrev pub HasFailed : ℕ → ℕ → Type 0
HasFailed before now = (before < now) ⊎ (before ≡ 18446744073709551615)

-- The count of failures rises at a fault alone, and at each, up to the greatest number that it can tell.
pub record HasCause {T E : Type 0} (before now : ℕ) (result : Result T E) : Type 0 where
  pub no_fewer : before ≤ now
  pub kept : OnOk result (now ≡ before)
  pub rose : OnErr result (HasFailed before now)
