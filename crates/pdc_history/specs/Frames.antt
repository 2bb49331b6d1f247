-- What a reader of the streams sees: frames among those that were sent, and the layout under a stamp.
use Rattle.std.specs.{List.{Contains, slice_get}, Prelude.{[], ◌<◌, ◌^◌, ◌∷◌, ◌≡◌, ◌⊎◌, List, map, Some, ℕ}}
use Rattle.pdc_block.specs.pdc_cfg.{Config.{ConfigFields}, declared.shape.Shape.{Shape}, Section.{SectionFields}}
use Rattle.pdc_block.specs.{AbsentBlock.{absent_of}, Block.{IsBody, IsCut}}
use Rattle.pdc_row.specs.Layout.{own_block}
use Rattle.pdc_life.specs.{Arrival.{Stamp}, declared.pmu.Pmu.{Pmu}, MergerReading.{IsOwn}, NodeReading.{IsValid, stream_of}, Reading.{HasConfig, IsData, Stream}}
use Rattle.pdc_history.specs.{Seen.{output_in, Seen, stream_in}, World.{output_of, Who, World}}

-- the stream that an owner publishes
abbrev pub stream_from : World → Who → Stream
stream_from W who = record { id = (output_of W who).id.value; time_base = (output_of W who).time_base; rate = (output_of W who).rate }

-- Some layout frame of the owner that was sent bears this stamp: its first section is the own one with this stamp, and these are the
-- others.
pub record IsLayoutSent (seen : Seen) (who : Who) (stamp : Stamp) (sections : List SectionFields) : Type 0 where
  pub bytes : List ℕ
  pub among : Contains seen.frames bytes
  pub config : ConfigFields
  pub has : HasConfig (stream_in seen who) bytes config
  pub own : SectionFields
  pub all : config.sections ≡ own ∷ sections
  pub itself : IsOwn (output_in seen who).id.value own.bytes stamp

-- The layout under a stamp: after the own section these ones, as the owner's layout frames say that were sent and bear this stamp,
-- in whatever life. Under change 0, which none bears, the own section stands alone.
abbrev pub IsLayoutUnder : Seen → Who → Stamp → List SectionFields → Type 0
IsLayoutUnder seen who stamp sections = ((stamp.change ≡ 0) × (sections ≡ [])) ⊎ IsLayoutSent seen who stamp sections

-- A valid configuration of a PMU that was sent has this section.
pub record SectionWasSent (seen : Seen) (s : SectionFields) : Type 0 where
  pub p : ℕ
  pub pmu : Pmu
  pub listed : slice_get seen.a.pmus.items p ≡ Some pmu
  pub bytes : List ℕ
  pub among : Contains seen.frames bytes
  pub valid : IsValid seen.a pmu bytes s

-- Data of the PMU with this source that was sent has this instant, and its body, of the section's shape, has these words.
pub record WasSent (seen : Seen) (i : ℕ) (s : SectionFields) (words : List ℕ) : Type 0 where
  pub p : ℕ
  pub pmu : Pmu
  pub listed : slice_get seen.a.pmus.items p ≡ Some pmu
  pub source : pmu.source ≡ s.source
  pub bytes : List ℕ
  pub quality : ℕ
  pub payload : List ℕ
  pub among : Contains seen.frames bytes
  pub is_data : IsData (stream_of seen.a pmu) bytes i quality payload
  pub body : IsBody s.shape payload words

-- The block at a section is absent, or was sent by the section's PMU for that instant.
abbrev pub IsGenuineBlock : Seen → ℕ → SectionFields → List ℕ → Type 0
IsGenuineBlock seen i s words = (words ≡ absent_of s.shape) ⊎ WasSent seen i s words

-- one for each section, in their order
abbrev pub AreGenuineBlocks : Seen → ℕ → List SectionFields → List (List ℕ) → Type 0
AreGenuineBlocks seen i [] [] = Unit {0}
AreGenuineBlocks seen i (s ∷ sections) (words ∷ blocks) = IsGenuineBlock seen i s words × AreGenuineBlocks seen i sections blocks
AreGenuineBlocks seen i _ _ = ⊥

-- The payload is the own block with this stamp, and a block for each of these sections.
pub record IsCutUnder (stamp : Stamp) (sections : List SectionFields) (payload : List ℕ) (blocks : List (List ℕ)) : Type 0 where
  pub start_fits : stamp.start < 2 ^ 32
  pub change_fits : stamp.change < 2 ^ 32
  pub cut :
      (own : Shape) → own.phasors ≡ 0 → own.analogs ≡ 0 → own.digitals ≡ 4 →
      IsCut (own ∷ map (λ (s : SectionFields). s.shape) sections) payload (own_block stamp.start stamp.change ∷ blocks)

-- The payload of the owner's data, cut under the layout of the stamp that it bears.
pub record IsCutOf (seen : Seen) (who : Who) (payload : List ℕ) (stamp : Stamp) (sections : List SectionFields) (blocks : List (List ℕ)) : Type 0 where
  pub under : IsLayoutUnder seen who stamp sections
  pub cut : IsCutUnder stamp sections payload blocks
