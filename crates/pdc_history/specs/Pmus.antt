-- What PMUs sent, in every history.
use Rattle.std.specs.{List.{Contains, slice_get}, Prelude.{◌∷◌, ◌≡◌, List, Some, ℕ}}
use Rattle.pdc_frame.specs.Frame.{Fields}
use Rattle.pdc_block.specs.pdc_cfg.Section.{SectionFields}
use Rattle.pdc_life.specs.{declared.pmu.Pmu.{Pmu}, NodeReading.{IsValid, stream_of}, Reading.{IsData, IsOfStream}}
use Rattle.pdc_history.specs.{History.{IsHistory}, Seen.{Seen}, World.{Happened, Sends, sent_at, World}}

-- What a node or the merger sends is no frame of a PMU: such a frame is sent by its PMU alone.
abbrev pub PmusSendTheirOwn : Type 0
PmusSendTheirOwn =
    (W : World) (H : List Happened) (h : Happened) (p : ℕ) (pmu : Pmu) (bytes : List ℕ) (fields : Fields) → IsHistory W (h ∷ H) →
    slice_get W.a.settings.pmus.items p ≡ Some pmu → Contains (sent_at W H h) bytes → IsOfStream (stream_of W.a.settings pmu) bytes fields → h ≡ Sends bytes

-- Of a PMU all data for one instant has one payload, and all valid configurations under one count have one section.
abbrev pub PmusSendOneBody : Seen → Type 0
PmusSendOneBody seen =
    (p : ℕ) (pmu : Pmu) (bytes other : List ℕ) (i q r : ℕ) (payload body : List ℕ) → slice_get seen.a.pmus.items p ≡ Some pmu →
    Contains seen.frames bytes → Contains seen.frames other → IsData (stream_of seen.a pmu) bytes i q payload →
    IsData (stream_of seen.a pmu) other i r body → payload ≡ body

abbrev pub PmusSendOneSection : Seen → Type 0
PmusSendOneSection seen =
    (p : ℕ) (pmu : Pmu) (bytes other : List ℕ) (s t : SectionFields) → slice_get seen.a.pmus.items p ≡ Some pmu →
    Contains seen.frames bytes → Contains seen.frames other → IsValid seen.a pmu bytes s → IsValid seen.a pmu other t →
    s.count ≡ t.count → s.bytes ≡ t.bytes
