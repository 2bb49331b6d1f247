-- What a world is asked to do, before its bytes are read: the event that it reads as, and why it is a fault.
use Rattle.std.specs.{List.{Contains, slice_get}, Prelude.{◌^◌, ◌≡◌, ◌≢◌, ◌≤◌, ◌⊎◌, length, List, Some, ℕ}}
use Rattle.pdc_frame.specs.Frame.{Fields, IsFrame}
use Rattle.pdc_block.specs.pdc_cfg.Section.{SectionFields}
use Rattle.pdc_life.specs.{Arrival.{Arrival}, CoreKind.{Says}, declared.pmu.Pmu.{Pmu}, NodeReading.{IsValid, stream_of}, Reading.{IsData}}
use Rattle.pdc_history.specs.{Event.{Act, Bring, Event, happens, Miss}, History.{IsForOne, IsOfPmu, MayHappen, stream_ids}, World.{Ends, Happened, kind_of, sent, Who, World}}
use Rattle.pdc_history.specs.Event as events

pub data Asked : Type 0 where
  -- a PMU sends this
  Send : (bytes : List ℕ) → Asked
  -- the frame with this number of those that were sent comes to the stream that its id names
  To : (who : Who) (number : ℕ) → Asked
  -- bytes come to the stream that they name, else to stream 0
  Junk : (who : Who) (bytes : List ℕ) → Asked
  Do : (who : Who) (act : Act) → Asked

-- The bytes are a frame, and its id is that of this stream.
pub record IsNamed (ids bytes : List ℕ) (s : ℕ) : Type 0 where
  pub fields : Fields
  pub frame : IsFrame bytes fields
  pub named : slice_get ids s ≡ Some fields.id

abbrev pub IsUnnamed : (ids bytes : List ℕ) → Type 0
IsUnnamed ids bytes = (s : ℕ) → IsNamed ids bytes s → ⊥

-- the event brings the bytes to this stream, with what they say to it
pub record Brings (W : World) (who : Who) (s : ℕ) (bytes : List ℕ) (event : Event) : Type 0 where
  pub arrival : Arrival
  pub says : Says (kind_of W who) s bytes arrival
  pub is : event ≡ Bring who s bytes arrival

-- to the stream that they name
pub record BringsToNamed (W : World) (who : Who) (bytes : List ℕ) (event : Event) : Type 0 where
  pub stream : ℕ
  pub names : IsNamed (stream_ids (kind_of W who)) bytes stream
  pub brings : Brings W who stream bytes event

-- A frame that was sent comes to the stream that it names, or passes by a core that has none.
pub record BringsSent (W : World) (H : List Happened) (who : Who) (number : ℕ) (event : Event) : Type 0 where
  pub bytes : List ℕ
  pub there : slice_get (sent W H) number ≡ Some bytes
  pub read : BringsToNamed W who bytes event ⊎ (IsUnnamed (stream_ids (kind_of W who)) bytes × (event ≡ Miss who))

-- What is asked, its bytes read, is this event.
abbrev pub IsReadOf : World → List Happened → Asked → Event → Type 0
IsReadOf W H (Send bytes) event = event ≡ events.Send bytes
IsReadOf W H (To who number) event = BringsSent W H who number event
IsReadOf W H (Junk who bytes) event = BringsToNamed W who bytes event ⊎ (IsUnnamed (stream_ids (kind_of W who)) bytes × Brings W who 0 bytes event)
IsReadOf W H (Do who act) event = event ≡ events.Do who act

-- ---- faults

pub data Cause : Type 0 where
  -- a PMU sent another body for this instant, or another section under this count
  OtherBody : Cause
  OtherSection : Cause
  -- what is sent is no frame of a PMU; junk is a frame of a stream of its receiver that was never sent
  Foreign : Cause
  -- so many frames were not sent
  NoSuchFrame : Cause
  -- the next start would have more than 32 bits
  StartsUsedUp : Cause

-- its data that was sent for the same instant has another payload
pub record HasOtherBody (W : World) (H : List Happened) (bytes : List ℕ) : Type 0 where
  pub p : ℕ
  pub pmu : Pmu
  pub of_pmu : IsOfPmu W p pmu bytes
  pub instant : ℕ
  pub quality : ℕ
  pub payload : List ℕ
  pub is_data : IsData (stream_of W.a.settings pmu) bytes instant quality payload
  pub other : List ℕ
  pub among : Contains (sent W H) other
  pub its_quality : ℕ
  pub its_payload : List ℕ
  pub was : IsData (stream_of W.a.settings pmu) other instant its_quality its_payload
  pub differs : payload ≢ its_payload

-- its valid configuration that was sent under the same count has another section
pub record HasOtherSection (W : World) (H : List Happened) (bytes : List ℕ) : Type 0 where
  pub p : ℕ
  pub pmu : Pmu
  pub of_pmu : IsOfPmu W p pmu bytes
  pub section : SectionFields
  pub valid : IsValid W.a.settings pmu bytes section
  pub other : List ℕ
  pub among : Contains (sent W H) other
  pub its_section : SectionFields
  pub was : IsValid W.a.settings pmu other its_section
  pub count : section.count ≡ its_section.count
  pub differs : section.bytes ≢ its_section.bytes

-- the life that would begin has no start number left
abbrev pub HasNoStart : Happened → Type 0
HasNoStart (Ends who mark) = 2 ^ 32 ≤ mark.start
HasNoStart h = ⊥

-- What is asked is a fault, for this cause.
abbrev pub IsFault : World → List Happened → Asked → Cause → Type 0
IsFault W H (Send bytes) OtherBody = HasOtherBody W H bytes
IsFault W H (Send bytes) OtherSection = HasOtherSection W H bytes
IsFault W H (Send bytes) Foreign = (p : ℕ) (pmu : Pmu) → IsOfPmu W p pmu bytes → ⊥
IsFault W H (To who number) NoSuchFrame = length (sent W H) ≤ number
IsFault W H (Junk who bytes) Foreign = IsForOne W who bytes × (Contains (sent W H) bytes → ⊥)
IsFault W H (Do who act) StartsUsedUp = HasNoStart (happens W H (events.Do who act))
IsFault W H asked cause = ⊥

-- ---- what holds of them

-- What is asked reads as one event.
abbrev pub AskedIsReadOnce : Type 0
AskedIsReadOnce = (W : World) (H : List Happened) (asked : Asked) (a b : Event) → IsReadOf W H asked a → IsReadOf W H asked b → a ≡ b

-- It has one cause at most.
abbrev pub CausesAreOne : Type 0
CausesAreOne = (W : World) (H : List Happened) (asked : Asked) (a b : Cause) → IsFault W H asked a → IsFault W H asked b → a ≡ b

-- Where it is a fault, it reads as no event that may happen.
abbrev pub FaultsMayNotHappen : Type 0
FaultsMayNotHappen =
    (W : World) (H : List Happened) (asked : Asked) (cause : Cause) (event : Event) → IsFault W H asked cause → IsReadOf W H asked event → MayHappen W H event → ⊥

-- A frame that was sent may always come.
abbrev pub SentMayCome : Type 0
SentMayCome = (W : World) (H : List Happened) (who : Who) (number : ℕ) (event : Event) → IsReadOf W H (To who number) event → MayHappen W H event
