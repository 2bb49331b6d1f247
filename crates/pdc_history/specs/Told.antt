-- What a frame tells of a PMU: of an instant a body, and under a count a section.
use Rattle.std.specs.Prelude.{◌≡◌, ℕ, List, [], ◌∷◌, Option, None, Some}
use Rattle.pdc_block.specs.pdc_cfg.Section.{SectionFields}
use Rattle.pdc_life.specs.declared.given.Settings.{Settings}
use Rattle.pdc_life.specs.declared.pmu.Pmu.{Pmu}
use Rattle.pdc_life.specs.Arrival.{Arrival, BytesRefused, Data, Layout}
use Rattle.pdc_life.specs.NodeReading.{IsValid, stream_of}
use Rattle.pdc_life.specs.Reading.{IsData}
use Rattle.pdc_history.specs.declared.key.Key.{Key}
use Rattle.pdc_history.specs.declared.key.Key.TheVariants.{Count, Instant}
use Rattle.pdc_history.specs.declared.told.Told.{Told as ToldData}

-- the bytes are data of the PMU for this instant, with this body
pub record TellsBody (settings : Settings) (pmu : Pmu) (bytes : List ℕ) (instant : ℕ) (content : List ℕ) : Type 0 where
  pub quality : ℕ
  pub is_data : IsData (stream_of settings pmu) bytes instant quality content

-- the bytes are a valid configuration of the PMU with this count, whose section has these bytes
pub record TellsSection (settings : Settings) (pmu : Pmu) (bytes : List ℕ) (count : ℕ) (content : List ℕ) : Type 0 where
  pub section : SectionFields
  pub valid : IsValid settings pmu bytes section
  pub same_count : section.count ≡ count
  pub same_bytes : section.bytes ≡ content

-- The bytes tell this of the PMU, under this key.
abbrev pub Tells : Settings → Pmu → List ℕ → Key → (content : List ℕ) → Type 0
Tells settings pmu bytes (Instant i) content = TellsBody settings pmu bytes i content
Tells settings pmu bytes (Count n) content = TellsSection settings pmu bytes n content

-- what is told, wherever it lies in memory
pub record ToldView : Type 0 where
  pub key : Key
  pub content : List ℕ

abbrev pub told_view : ToldData → ToldView
told_view told = record { key = told.key; content = told.content.now }

-- what is told by what was read
abbrev pub told_in : Arrival → Option ToldView
told_in (BytesRefused refusal) = None
told_in (Data instant quality payload) = Some (record { key = Instant instant; content = payload })
told_in (Layout stamp []) = None
told_in (Layout stamp ((column, section) ∷ sections)) = Some (record { key = Count section.count; content = section.bytes })
