-- All frames that were ever sent, and which frame a PMU may send after them. Definitions speak of the list of frames
-- alone: `Histories` says what they are of a world.
use Rattle.std.specs.Prelude.{◌≡◌, ◌≢◌, ℕ, Bool, false, List, [], ◌∷◌, ◌++◌, Some}
use Rattle.std.specs.List.{Contains, slice_get}
use Rattle.pdc_frame.specs.Frame.{Fields}
use Rattle.pdc_life.specs.declared.given.Settings.{Settings}
use Rattle.pdc_life.specs.declared.pmu.Pmu.{Pmu}
use Rattle.pdc_life.specs.NodeReading.{stream_of}
use Rattle.pdc_life.specs.Reading.{IsOfStream}
use Rattle.pdc_history.specs.declared.send_fault.SendFault.{SendFault}
use Rattle.pdc_history.specs.declared.send_fault.SendFault.TheVariants.{Foreign, NoMemory, OtherBody, OtherSection}
use Rattle.pdc_history.specs.declared.key.Key.{Key}
use Rattle.pdc_history.specs.declared.key.Key.TheVariants.{Count, Instant}
use Rattle.pdc_history.specs.Told.{Tells}

-- The frames, the first to be sent first; whether there is room for one more of the most bytes; and the settings that list the PMUs.
pub record SentView : Type 0 where
  pub frames : List (List ℕ)
  pub has_room : Bool
  pub settings : Settings

-- after one frame more, which took the room
abbrev pub with_frame : SentView → (bytes : List ℕ) → SentView
with_frame v bytes = record { frames = v.frames ++ bytes ∷ []; has_room = false; settings = v.settings }

-- The bytes are a frame of this PMU, which the settings list at this place.
pub record IsOfPmu (settings : Settings) (p : ℕ) (pmu : Pmu) (bytes : List ℕ) : Type 0 where
  pub listed : slice_get settings.pmus.items p ≡ Some pmu
  pub fields : Fields
  pub of_stream : IsOfStream (stream_of settings pmu) bytes fields

-- The bytes are a frame of no PMU.
abbrev pub IsOfNone : Settings → (bytes : List ℕ) → Type 0
IsOfNone settings bytes = (p : ℕ) (pmu : Pmu) → IsOfPmu settings p pmu bytes → ⊥

abbrev pub IsOfSome : Settings → (bytes : List ℕ) → Pmu → Type 0
IsOfSome settings bytes pmu = (p : ℕ) × IsOfPmu settings p pmu bytes

-- a PMU of this stream, and that there is none
abbrev pub HaveStream : List Pmu → (id : ℕ) → Pmu → Type 0
HaveStream pmus id pmu = (p : ℕ) × (slice_get pmus p ≡ Some pmu) × (pmu.stream.value ≡ id)

abbrev pub HaveNoStream : List Pmu → (id : ℕ) → Type 0
HaveNoStream pmus id = (p : ℕ) (pmu : Pmu) → slice_get pmus p ≡ Some pmu → pmu.stream.value ≢ id

-- Of what was told of a PMU under a key in these frames: nothing; nothing but this; this, and nothing else; another thing.
abbrev pub HasToldNothing : Settings → List (List ℕ) → Pmu → Key → Type 0
HasToldNothing settings frames pmu key = (other x : List ℕ) → Contains frames other → Tells settings pmu other key x → ⊥

abbrev pub HasToldAtMost : Settings → List (List ℕ) → Pmu → Key → (content : List ℕ) → Type 0
HasToldAtMost settings frames pmu key content = (other x : List ℕ) → Contains frames other → Tells settings pmu other key x → content ≡ x

pub record HasTold (settings : Settings) (frames : List (List ℕ)) (pmu : Pmu) (key : Key) (content : List ℕ) : Type 0 where
  pub frame : List ℕ
  pub among : Contains frames frame
  pub tells : Tells settings pmu frame key content
  pub only : HasToldAtMost settings frames pmu key content

pub record HasToldOther (settings : Settings) (frames : List (List ℕ)) (pmu : Pmu) (key : Key) (content : List ℕ) : Type 0 where
  pub its_content : List ℕ
  pub told : HasTold settings frames pmu key its_content
  pub differs : content ≢ its_content

-- A PMU may send the bytes after these frames: they are a frame of it, and what they tell is what it told before under the same key:
-- one body for one instant, and one section under one count.
pub record MaySendAfter (settings : Settings) (frames : List (List ℕ)) (bytes : List ℕ) : Type 0 where
  pub p : ℕ
  pub pmu : Pmu
  pub of_pmu : IsOfPmu settings p pmu bytes
  pub one :
      (other : List ℕ) (key : Key) (x y : List ℕ) → Contains frames other → Tells settings pmu bytes key x → Tells settings pmu other key y → x ≡ y

-- Its PMU told something else under this key.
pub record HasOther (settings : Settings) (frames : List (List ℕ)) (bytes : List ℕ) (key : Key) : Type 0 where
  pub p : ℕ
  pub pmu : Pmu
  pub of_pmu : IsOfPmu settings p pmu bytes
  pub content : List ℕ
  pub tells : Tells settings pmu bytes key content
  pub other : List ℕ
  pub among : Contains frames other
  pub its_content : List ℕ
  pub was : Tells settings pmu other key its_content
  pub differs : content ≢ its_content

-- the fault of telling something else under this key
abbrev pub fault_of : Key → SendFault
fault_of (Instant i) = OtherBody
fault_of (Count n) = OtherSection

-- Why no PMU may send the bytes.
abbrev pub IsRefused : Settings → List (List ℕ) → (bytes : List ℕ) → SendFault → Type 0
IsRefused settings frames bytes Foreign = IsOfNone settings bytes
IsRefused settings frames bytes OtherBody = (i : ℕ) × HasOther settings frames bytes (Instant i)
IsRefused settings frames bytes OtherSection = (n : ℕ) × HasOther settings frames bytes (Count n)
IsRefused settings frames bytes NoMemory = ⊥

-- Why a send is refused; for want of memory only where there was no room.
abbrev pub IsSendFault : SentView → (bytes : List ℕ) → SendFault → Type 0
IsSendFault v bytes NoMemory = v.has_room ≡ false
IsSendFault v bytes fault = IsRefused v.settings v.frames bytes fault
