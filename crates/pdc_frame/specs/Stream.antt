-- Frames in a stream of bytes, one behind another with nothing between (IEEE C37.118.2-2011, 6.2: SYNC begins a frame
-- and FRAMESIZE tells its end). Where a fault shows is this profile's: at the first byte that no frame has there.
use Rattle.std.specs.Prelude.{◌≡◌, ◌≢◌, ◌⊎◌, ℕ, ◌-◌, ◌<◌, ◌≤◌, List, [], ◌∷◌, ◌++◌, length, take, slice_index, flat_map, Option, Some, None}
use Rattle.std.specs.List.{All}
use Rattle.pdc_frame.specs.declared.fault.FrameFault.{FrameFault}
use Rattle.pdc_frame.specs.declared.fault.FrameFault.TheVariants.{Short, BadSync, SizeMismatch, BadCheck, BadId}
use Rattle.pdc_frame.specs.declared.step.Step.{Step}
use Rattle.pdc_frame.specs.declared.step.Step.TheVariants.{More, Whole, Bad}
use Rattle.pdc_words.specs.Bytes.{word_at}
use Rattle.pdc_frame.specs.Frame.{Fields, IsFrame, IsSync, IsFirstFault}

-- A frame may go on from these bytes: as far as they go they are SYNC and a FRAMESIZE that has room for the fields,
-- and there are fewer than FRAMESIZE says.
pub record IsGoing (bytes : List ℕ) : Type 0 where
  pub first : 1 ≤ length bytes → slice_index bytes 0 ≡ 170
  pub sync : 2 ≤ length bytes → IsSync (slice_index bytes 0) (slice_index bytes 1)
  pub size : 4 ≤ length bytes → 16 ≤ word_at bytes 2
  pub more : 4 ≤ length bytes → length bytes < word_at bytes 2

-- the bytes are a frame
abbrev pub IsWhole : List ℕ → Type 0
IsWhole bytes = (f : Fields) × IsFrame bytes f

-- The last of the bytes shows the fault: one of SYNC that stands in no SYNC, the second of a FRAMESIZE below 16, or
-- the last of a frame whose CHK or IDCODE is wrong. FRAMESIZE is where a frame ends, so it is never wrong otherwise.
abbrev pub IsCause : List ℕ → FrameFault → Type 0
IsCause bytes BadSync = ((length bytes ≡ 1) × (slice_index bytes 0 ≢ 170))
    ⊎ ((length bytes ≡ 2) × (IsSync (slice_index bytes 0) (slice_index bytes 1) → ⊥))
IsCause bytes Short = (length bytes ≡ 4) × (word_at bytes 2 < 16)
IsCause bytes SizeMismatch = ⊥
IsCause bytes BadCheck = IsFirstFault bytes BadCheck
IsCause bytes BadId = IsFirstFault bytes BadId

-- and a frame could go on from those before it
pub record Shows (bytes : List ℕ) (fault : FrameFault) : Type 0 where
  pub before : IsGoing (take (length bytes - 1) bytes)
  pub cause : IsCause bytes fault

-- what the bytes since the end of the last frame are, as a framer tells it
abbrev pub IsAt : List ℕ → Step → Type 0
IsAt bytes More = IsGoing bytes
IsAt bytes Whole = IsWhole bytes
IsAt bytes (Bad fault) = Shows bytes fault

-- what a framer holds: the bytes since the end of the last frame, what it said of them, and how many bytes it can hold
-- without taking memory
pub record Held : Type 0 where
  pub bytes : List ℕ
  pub step : Step
  pub room : ℕ

-- the bytes to which the next ones are joined: a whole frame is done with
abbrev pub pending_of : Step → List ℕ → List ℕ
pending_of More bytes = bytes
pending_of Whole bytes = []
pending_of (Bad fault) bytes = bytes

-- after a fault no byte is taken
abbrev pub IsBad : Step → Type 0
IsBad More = ⊥
IsBad Whole = ⊥
IsBad (Bad fault) = Unit {0}

-- What stands behind the whole frames of a stream: bytes from which a frame may go on,
abbrev pub IsRest : List ℕ → Option FrameFault → Type 0
IsRest rest None = IsGoing rest
-- or bytes whose last shows a fault, and whatever comes behind it.
IsRest rest (Some fault) = (shown more : List ℕ) × (rest ≡ shown ++ more) × Shows shown fault

-- the stream is these frames, and then a rest that is none
pub record Splits (stream : List ℕ) (frames : List (List ℕ)) (rest : List ℕ) (fault : Option FrameFault) : Type 0 where
  pub whole : stream ≡ flat_map (λ frame. frame) frames ++ rest
  pub each : All IsWhole frames
  pub end : IsRest rest fault

-- a framer that took these bytes of a stream gave these frames, and holds this
pub record HasTaken (stream : List ℕ) (frames : List (List ℕ)) (held : Held) : Type 0 where
  pub whole : stream ≡ flat_map (λ frame. frame) frames ++ pending_of held.step held.bytes
  pub each : All IsWhole frames
  pub at : IsAt held.bytes held.step

-- With this piece a framer goes on from some frames to others, whatever stream came before.
abbrev pub GoesOn : List ℕ → List (List ℕ) → Held → List (List ℕ) → Held → Type 0
GoesOn piece frames old others new = (stream : List ℕ) → HasTaken stream frames old → HasTaken (stream ++ piece) others new

-- the fault that a framer told
abbrev pub fault_of : Step → Option FrameFault
fault_of More = None
fault_of Whole = None
fault_of (Bad fault) = Some fault

-- what a framer gives at this step
abbrev pub given_at : Step → List ℕ → List (List ℕ)
given_at More bytes = []
given_at Whole bytes = bytes ∷ []
given_at (Bad fault) bytes = []
