-- What the bytes say that arrive for a PMU: all that needs no memory of what came before.
use Rattle.std.specs.Prelude.{◌∷◌, ◌≡◌, ◌≢◌, ◌⊎◌}
use Rattle.pdc_life.specs.Names.{[], ConfigFields, Cut, FloatFormat, length, List, None, SectionFields, TooMany, WrongKind, ℕ}
use Rattle.pdc_row.specs.pdc_frame.Frame as frame
use Rattle.pdc_life.specs.Arrival.{Arrival, BytesRefused, Data, Layout}
use Rattle.pdc_life.specs.Reading.{Stream, HasBase, HasConfig, HasNoInstant, HasOtherRate, HasOtherTimeBase, IsBroken, IsData, IsForeign, IsOtherKind}
use Rattle.pdc_life.specs.declared.given.Settings.{Settings}
use Rattle.pdc_life.specs.declared.outcome.Refusal.{Refusal}
use Rattle.pdc_life.specs.declared.outcome.Refusal.TheVariants.{NoFrame, WrongId, NoConfiguration, WrongTimeBase, WrongRate, WrongSource, BadTag}
use Rattle.pdc_life.specs.declared.pmu.Pmu.{Pmu}

-- the stream of a PMU
abbrev pub stream_of : Settings → Pmu → Stream
stream_of settings pmu = record { id = pmu.stream.value; time_base = pmu.time_base; rate = settings.output.rate }

-- A valid configuration: one section, and the TIME_BASE, the rate and the source of the settings.
pub record IsValid (settings : Settings) (pmu : Pmu) (bytes : List ℕ) (section : SectionFields) : Type 0 where
  pub config : ConfigFields
  pub base : HasBase (stream_of settings pmu) bytes config
  pub one : config.sections ≡ section ∷ []
  pub source : section.source ≡ pmu.source

-- It has another number of sections than one.
pub record HasOtherNumber (stream : Stream) (bytes : List ℕ) : Type 0 where
  pub config : ConfigFields
  pub has : HasConfig stream bytes config
  pub number : length config.sections ≢ 1

-- It has one, of another source.
pub record HasOtherSource (settings : Settings) (pmu : Pmu) (bytes : List ℕ) : Type 0 where
  pub config : ConfigFields
  pub base : HasBase (stream_of settings pmu) bytes config
  pub section : SectionFields
  pub one : config.sections ≡ section ∷ []
  pub differs : section.source ≢ pmu.source

-- Why bytes are refused, whatever came before: the first cause that holds. The refusals that are left depend on what came
-- before, and are no matter of reading.
abbrev pub IsRefused : Settings → Pmu → List ℕ → Refusal → Type 0
IsRefused settings pmu bytes (NoFrame fault) = frame.IsFirstFault bytes fault
IsRefused settings pmu bytes WrongId = IsForeign (stream_of settings pmu) bytes
IsRefused settings pmu bytes (NoConfiguration WrongKind) = IsOtherKind (stream_of settings pmu) bytes
IsRefused settings pmu bytes (NoConfiguration Cut) = IsBroken (stream_of settings pmu) bytes Cut
IsRefused settings pmu bytes (NoConfiguration TooMany) = IsBroken (stream_of settings pmu) bytes TooMany ⊎ HasOtherNumber (stream_of settings pmu) bytes
IsRefused settings pmu bytes (NoConfiguration FloatFormat) = IsBroken (stream_of settings pmu) bytes FloatFormat
IsRefused settings pmu bytes WrongTimeBase =
    (c : ConfigFields) × (length c.sections ≡ 1) × HasOtherTimeBase (stream_of settings pmu) bytes c
IsRefused settings pmu bytes WrongRate =
    (c : ConfigFields) × (length c.sections ≡ 1) × HasOtherRate (stream_of settings pmu) bytes c
IsRefused settings pmu bytes WrongSource = HasOtherSource settings pmu bytes
IsRefused settings pmu bytes BadTag = HasNoInstant (stream_of settings pmu) bytes
IsRefused settings pmu bytes _ = ⊥

-- What the bytes say that came for the PMU with this number. A configuration is of its column, and has no stamp.
abbrev pub Reads : Settings → ℕ → Pmu → List ℕ → Arrival → Type 0
Reads settings p pmu bytes (BytesRefused refusal) = IsRefused settings pmu bytes refusal
Reads settings p pmu bytes (Data instant quality payload) = IsData (stream_of settings pmu) bytes instant quality payload
Reads settings p pmu bytes (Layout None ((c, section) ∷ [])) = (c ≡ p) × IsValid settings pmu bytes section
Reads settings p pmu bytes (Layout stamp sections) = ⊥
