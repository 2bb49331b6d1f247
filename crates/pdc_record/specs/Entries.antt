-- The spelling of an entry: LEN, KIND, STEP, TIME, the body and CHK. LEN counts the whole entry. And what bytes begin with.
use Rattle.std.specs.Prelude.{◌≡◌, ◌≢◌, ◌⊎◌, ℕ, ◌+◌, ◌-◌, ◌^◌, ◌<◌, ◌≤◌, List, ◌∷◌, ◌++◌, length, take}
use Rattle.std.specs.Int.{w16, w32, w64, to_be_bytes}
use Rattle.pdc_frame.specs.Bytes.{word_at, long_at}
use Rattle.pdc_frame.specs.CheckWord.{check_word_of}
use Rattle.pdc_record.specs.declared.limits.TheConstants.{MAX_REST, MAX_LEN, OVERHEAD}
use Rattle.pdc_record.specs.declared.reading.Unread.{Unread}
use Rattle.pdc_record.specs.declared.reading.Unread.TheVariants.{Cut, NoEntry, BadCheck}
use Rattle.pdc_record.specs.Told.{Fields}
use Rattle.pdc_record.specs.Bodies.{kind_number, rest_of, body_of, FitsWidths}

-- fields that have a spelling
pub record Fits (f : Fields) : Type 0 where
  pub step : f.step < 2 ^ 64
  pub time : f.time < 2 ^ 64
  pub widths : FitsWidths f.told
  pub rest : length (rest_of f.told) ≤ MAX_REST

-- everything before the body, in an entry of so many bytes
abbrev pub head_of : Fields → ℕ → List ℕ
head_of f len = to_be_bytes w32 len ++ (kind_number f.told ∷ (to_be_bytes w64 f.step ++ to_be_bytes w64 f.time))

-- everything before CHK
abbrev pub before_check : Fields → List ℕ
before_check f = head_of f (length (body_of f.told) + OVERHEAD) ++ body_of f.told

-- the one spelling of these fields
abbrev pub spelling_of : Fields → List ℕ
spelling_of f = before_check f ++ to_be_bytes w16 (check_word_of (before_check f))

-- the bytes begin with the entry with these fields
pub record Begins (bytes : List ℕ) (f : Fields) : Type 0 where
  pub fits : Fits f
  pub more : List ℕ
  pub spelled : bytes ≡ spelling_of f ++ more

-- there is a LEN, and an entry may have as many bytes
pub record IsSized (bytes : List ℕ) : Type 0 where
  pub room : 4 ≤ length bytes
  pub least : OVERHEAD ≤ long_at bytes 0
  pub most : long_at bytes 0 ≤ MAX_LEN

-- and there are as many
pub record IsWhole (bytes : List ℕ) : Type 0 where
  pub sized : IsSized bytes
  pub enough : long_at bytes 0 ≤ length bytes

-- the bytes before the place of CHK
abbrev pub unchecked_of : List ℕ → List ℕ
unchecked_of bytes = take (long_at bytes 0 - 2) bytes

-- say this
pub record IsSaid (bytes : List ℕ) (f : Fields) : Type 0 where
  pub fits : Fits f
  pub spelled : bytes ≡ before_check f

-- Why bytes begin with no entry: the first cause that holds.
abbrev pub IsFirstCause : List ℕ → Unread → Type 0
IsFirstCause bytes Cut = (length bytes < 4) ⊎ (IsSized bytes × (length bytes < long_at bytes 0))
IsFirstCause bytes NoEntry = (4 ≤ length bytes) × ((IsSized bytes → ⊥) ⊎ (IsWhole bytes × ((f : Fields) → IsSaid (unchecked_of bytes) f → ⊥)))
IsFirstCause bytes BadCheck = IsWhole bytes × ((f : Fields) × IsSaid (unchecked_of bytes) f) × (word_at bytes (long_at bytes 0 - 2) ≢ check_word_of (unchecked_of bytes))

-- of these, those that LEN tells before the body is read
abbrev pub IsSizeCause : List ℕ → Unread → Type 0
IsSizeCause bytes Cut = IsFirstCause bytes Cut
IsSizeCause bytes NoEntry = (4 ≤ length bytes) × (IsSized bytes → ⊥)
IsSizeCause bytes BadCheck = ⊥
