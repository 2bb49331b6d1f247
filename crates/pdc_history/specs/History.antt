-- Which histories a world may have: each thing happened as an event that may happen makes it.
use Rattle.std.specs.{List.{Contains, slice_get}, Prelude.{[], ◌<◌, ◌^◌, ◌∷◌, ◌≡◌, List, map, Some, ℕ}}
use Rattle.pdc_frame.specs.Frame.{Fields, IsFrame}
use Rattle.pdc_block.specs.pdc_cfg.Section.{SectionFields}
use Rattle.pdc_life.specs.{Arrival.{Arrival}, CoreKind.{CoreKind, OfMerger, OfNode, Says}, declared.merging.MergedNode.{MergedNode}, declared.pmu.Pmu.{Pmu}, MergerReading.{nodes_of}, NodeReading.{IsValid, stream_of}, Reading.{IsData, IsOfStream}}
use Rattle.pdc_history.specs.{Agree.{ids_of, MayBegin}, Event.{Bring, Event, happens, history_from, Send}, World.{Ends, Happened, kind_of, sent, Who, World}}

-- The bytes are a frame of this PMU; the PMUs are those of A's settings.
pub record IsOfPmu (W : World) (p : ℕ) (pmu : Pmu) (bytes : List ℕ) : Type 0 where
  pub listed : slice_get W.a.settings.pmus.items p ≡ Some pmu
  pub fields : Fields
  pub of_stream : IsOfStream (stream_of W.a.settings pmu) bytes fields

-- A PMU sends one body for one instant: its data that was sent for the same instant has the same payload.
abbrev pub IsOneBody : World → List Happened → Pmu → (bytes : List ℕ) → Type 0
IsOneBody W H pmu bytes =
    (other : List ℕ) (i q r : ℕ) (payload body : List ℕ) → Contains (sent W H) other → IsData (stream_of W.a.settings pmu) bytes i q payload →
    IsData (stream_of W.a.settings pmu) other i r body → payload ≡ body

-- It sends one section under one count: its valid configuration that was sent under the same count has the same section.
abbrev pub IsOneSection : World → List Happened → Pmu → (bytes : List ℕ) → Type 0
IsOneSection W H pmu bytes =
    (other : List ℕ) (s t : SectionFields) → Contains (sent W H) other → IsValid W.a.settings pmu bytes s →
    IsValid W.a.settings pmu other t → s.count ≡ t.count → s.bytes ≡ t.bytes

-- The premises of a send: the bytes are a frame of a PMU, which sends one body for one instant, and one section under one count.
pub record MaySend (W : World) (H : List Happened) (bytes : List ℕ) : Type 0 where
  pub p : ℕ
  pub pmu : Pmu
  pub of_pmu : IsOfPmu W p pmu bytes
  pub one_body : IsOneBody W H pmu bytes
  pub one_section : IsOneSection W H pmu bytes

-- the ids of the streams of a core
abbrev pub stream_ids : CoreKind → List ℕ
stream_ids (OfNode settings) = ids_of settings.pmus.items
stream_ids (OfMerger settings) = map (λ (node : MergedNode). node.id.value) (nodes_of settings)

-- the bytes read as a frame of a stream of the core
pub record IsForOne (W : World) (who : Who) (bytes : List ℕ) : Type 0 where
  pub fields : Fields
  pub frame : IsFrame bytes fields
  pub listed : Contains (stream_ids (kind_of W who)) fields.id

-- What comes was read for its stream; and what reads as a frame of a stream of its receiver was sent.
pub record MayCome (W : World) (H : List Happened) (who : Who) (s : ℕ) (bytes : List ℕ) (arrival : Arrival) : Type 0 where
  pub says : Says (kind_of W who) s bytes arrival
  pub was_sent : IsForOne W who bytes → Contains (sent W H) bytes

-- a start number is left
abbrev pub HasStart : Happened → Type 0
HasStart (Ends who mark) = mark.start < 2 ^ 32
HasStart h = Unit {0}

abbrev pub MayHappen : World → List Happened → Event → Type 0
MayHappen W H (Send bytes) = MaySend W H bytes
MayHappen W H (Bring who s bytes arrival) = MayCome W H who s bytes arrival
MayHappen W H event = HasStart (happens W H event)

-- An event that may happen makes this happen.
pub record IsMade (W : World) (H : List Happened) (h : Happened) : Type 0 where
  pub event : Event
  pub may : MayHappen W H event
  pub made : h ≡ happens W H event

-- A history of the world.
abbrev pub IsHistory : World → List Happened → Type 0
IsHistory W [] = MayBegin W
IsHistory W (h ∷ H) = IsMade W H h × IsHistory W H

-- Each of these events may happen after those before it, the first of them first.
abbrev pub MayAllHappen : World → List Happened → List Event → Type 0
MayAllHappen W H [] = Unit {0}
MayAllHappen W H (event ∷ events) = MayHappen W H event × MayAllHappen W (happens W H event ∷ H) events

-- Events that may happen make a history.
abbrev pub EventsMakeHistories : Type 0
EventsMakeHistories = (W : World) (H : List Happened) (events : List Event) → IsHistory W H → MayAllHappen W H events → IsHistory W (history_from W H events)
