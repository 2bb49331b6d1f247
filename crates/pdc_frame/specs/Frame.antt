-- The spelling of a frame (IEEE C37.118.2-2011, 6.2 and table 2): SYNC, FRAMESIZE, IDCODE, SOC, FRACSEC, the payload
-- and CHK. FRAMESIZE counts the whole frame. Versions 1 and 2 are read alike.
use Rattle.std.specs.Prelude.{◌≡◌, ◌≢◌, ◌⊎◌, ℕ, ◌+◌, ◌-◌, ◌*◌, ◌/◌, ◌%◌, ◌^◌, ◌<◌, ◌≤◌, List, ◌∷◌, ◌++◌, length, take, drop, slice_index}
use Rattle.std.specs.Int.{w16, w32, to_be_bytes}
use Rattle.pdc_frame.specs.declared.frame.Kind.{Kind}
use Rattle.pdc_frame.specs.declared.frame.Kind.TheVariants.{DataFrame, HeaderFrame, Cfg1, Cfg2, CommandFrame, Cfg3}
use Rattle.pdc_frame.specs.declared.frame.Frame.{Frame}
use Rattle.pdc_frame.specs.declared.fault.FrameFault.{FrameFault}
use Rattle.pdc_frame.specs.declared.fault.FrameFault.TheVariants.{Short, BadSync, SizeMismatch, BadCheck, BadId}
use Rattle.pdc_words.specs.Bytes.{AreBytes, word_at, long_at}
use Rattle.pdc_words.specs.CheckWord.{check_word_of}

-- bits 6 to 4 of the second byte of SYNC
abbrev pub number_of : Kind → ℕ
number_of DataFrame = 0
number_of HeaderFrame = 1
number_of Cfg1 = 2
number_of Cfg2 = 3
number_of CommandFrame = 4
number_of Cfg3 = 5

-- a frame's fields, without where its payload lies in memory
pub record Fields : Type 0 where
  pub kind : Kind
  pub version : ℕ
  pub id : ℕ
  pub soc : ℕ
  pub quality : ℕ
  pub frac : ℕ
  pub payload : List ℕ

abbrev pub fields_of : Frame → Fields
fields_of f = record {
  kind = f.kind;
  version = f.version;
  id = f.id.value;
  soc = f.soc;
  quality = f.quality;
  frac = f.frac;
  payload = f.payload.now;
}

-- what stands in the places of the fields, in a frame of this kind and version
abbrev pub fields_in : Kind → ℕ → List ℕ → Fields
fields_in kind version bytes = record {
  kind = kind;
  version = version;
  id = word_at bytes 4;
  soc = long_at bytes 6;
  quality = long_at bytes 10 / 2 ^ 24;
  frac = long_at bytes 10 % 2 ^ 24;
  payload = take (length bytes - 16) (drop 14 bytes);
}

-- fields that have a spelling
pub record Fits (f : Fields) : Type 0 where
  pub version : (f.version ≡ 1) ⊎ (f.version ≡ 2)
  pub id_low : 0 < f.id
  pub id_high : f.id < 65535
  pub soc : f.soc < 2 ^ 32
  pub quality : f.quality < 2 ^ 8
  pub frac : f.frac < 2 ^ 24
  pub size : length f.payload + 16 < 2 ^ 16
  pub bytes : AreBytes f.payload

-- everything before the payload, in a frame of so many bytes. FRACSEC has the time quality in its high byte and the
-- count in the three others
abbrev pub header_of : Fields → ℕ → List ℕ
header_of f size =
    170 ∷ (16 * number_of f.kind + f.version) ∷ (to_be_bytes w16 size ++ to_be_bytes w16 f.id ++ to_be_bytes w32 f.soc
    ++ to_be_bytes w32 (f.quality * 2 ^ 24 + f.frac))

-- everything before CHK
abbrev pub before_check : Fields → List ℕ
before_check f = header_of f (length f.payload + 16) ++ f.payload

-- the one spelling of these fields
abbrev pub spelling_of : Fields → List ℕ
spelling_of f = before_check f ++ to_be_bytes w16 (check_word_of (before_check f))

-- the bytes are a frame with these fields
pub record IsFrame (bytes : List ℕ) (f : Fields) : Type 0 where
  pub fits : Fits f
  pub spelled : bytes ≡ spelling_of f

-- The two bytes of SYNC: AA, then a bit that is 0, a kind of 0 to 5 and a version of 1 or 2.
pub record IsSync (first second : ℕ) : Type 0 where
  pub first_byte : first ≡ 170
  pub kind : second / 16 < 6
  pub version : (second % 16 ≡ 1) ⊎ (second % 16 ≡ 2)

-- the number that stands in the place of CHK
abbrev pub check_in : List ℕ → ℕ
check_in bytes = word_at bytes (length bytes - 2)

-- the bytes have room for the fields
abbrev pub IsLong : List ℕ → Type 0
IsLong bytes = 16 ≤ length bytes

-- and begin with SYNC
abbrev pub IsSynced : List ℕ → Type 0
IsSynced bytes = IsLong bytes × IsSync (slice_index bytes 0) (slice_index bytes 1)

-- and are as many as FRAMESIZE says
abbrev pub IsSized : List ℕ → Type 0
IsSized bytes = IsSynced bytes × (word_at bytes 2 ≡ length bytes)

-- and end with their check word
abbrev pub IsChecked : List ℕ → Type 0
IsChecked bytes = IsSized bytes × (check_in bytes ≡ check_word_of (take (length bytes - 2) bytes))

-- Why bytes are no frame: the first cause that holds, in the order of the fields' tests.
abbrev pub IsFirstFault : List ℕ → FrameFault → Type 0
IsFirstFault bytes Short = length bytes < 16
IsFirstFault bytes BadSync = IsLong bytes × (IsSync (slice_index bytes 0) (slice_index bytes 1) → ⊥)
IsFirstFault bytes SizeMismatch = IsSynced bytes × (word_at bytes 2 ≢ length bytes)
IsFirstFault bytes BadCheck = IsSized bytes × (check_in bytes ≢ check_word_of (take (length bytes - 2) bytes))
IsFirstFault bytes BadId = IsChecked bytes × ((word_at bytes 4 ≡ 0) ⊎ (word_at bytes 4 ≡ 65535))
