-- The headline, of a run: what the frames are that its sink took, in terms of what its sources gave.
use Rattle.std.specs.List.{AllByRecursion}
use Rattle.std.specs.Prelude.{◌≡◌, ◌⊎◌, ◌<◌, ℕ, Bool, true, Contains, List, [], ◌∷◌, ◌++◌, IfOk, OnOk, Result, Some, length, slice_get}
use mathlib.Core.List.{IsPrefix}
use Rattle.pdc_aligner.specs.Exact.{IsLayoutThen}
use Rattle.pdc_hub.specs.Received.{AreServed}
use Rattle.pdc_hub.specs.declared.fault.HubFault.{HubFault}
use Rattle.pdc_life.specs.CellData.{IsDataOf}
use Rattle.pdc_life.specs.CoreKind.{CoreKind, IsLifeOf, Says, given_of, output_under, rules_of, senders_of}
use Rattle.pdc_life.specs.Gave.{IsExactRow, place_of}
use Rattle.pdc_life.specs.Given.{Given}
use Rattle.pdc_life.specs.Life.{Entry, popped, section_in_force}
use Rattle.pdc_life.specs.declared.outcome.Outcome.{Outcome}
use Rattle.pdc_life.specs.declared.outcome.Outcome.TheVariants.{Taken}
use Rattle.pdc_log.specs.Log.{brought}
use Rattle.pdc_mark.specs.declared.stored.Stored.{Stored}
use Rattle.pdc_ports.specs.Heard.{Heard, TellsFrom}
use Rattle.pdc_row.specs.CellView.{BlockView, CellView, absent_view}
use Rattle.pdc_row.specs.Layout.{wire_of}
use Rattle.pdc_row.specs.Rising.{Rises}
use Rattle.pdc_row.specs.RowView.{RowView, row_instants}
use Rattle.pdc_row.specs.pdc_cfg.Section.{SectionFields}
use Rattle.pdc_row.specs.declared.output.Output.{Output}
use Rattle.pdc_threads.specs.Ended.{AreFor}
use Rattle.pdc_threads.specs.OneRun.{Found, IsBrought, IsOneRun}
use Rattle.pdc_threads.specs.Run.{GivesFrom}
use Rattle.pdc_threads.specs.declared.totals.Totals.{Totals}

-- The source of a stream gave these datagrams, in order, and so each was answered. It said nothing else but pauses, and one thing more, by
-- which its receiver ended. They are what the stream brought.
pub record HasGiven {S : Type 0} (told : S → List Heard → Type 0) (Brought : ℕ → List (List ℕ × Outcome) → Type 0) (source : S) (stream : ℕ) (gave : List (List ℕ × Outcome)) : Type 0 where
  pub served : List Heard
  pub last : Heard
  pub heard : TellsFrom told source (served ++ last ∷ [])
  pub are_served : AreServed served gave
  pub are_brought : Brought stream gave

-- The source of this stream, of those that gave all this, gave these bytes, and they were taken.
abbrev pub WereTaken : (gave : List (List (List ℕ × Outcome))) (stream : ℕ) (bytes : List ℕ) → Type 0
WereTaken gave stream bytes = (own : List (List ℕ × Outcome)) × (slice_get gave stream ≡ Some own) × Contains own (bytes, Taken)

-- The block is what a source gave for the instant: bytes that it gave are a data frame of its stream for that instant, which was taken in
-- the life, and whose words for the column, under the section in force, are these.
pub record IsOfSource (kind : CoreKind) (complete : Bool) (gave : List (List (List ℕ × Outcome))) (E : List Entry) (c i : ℕ) (f : SectionFields) (b : BlockView) : Type 0 where
  pub stream : ℕ
  pub cell : CellView
  pub is_data : IsDataOf kind E stream c i f cell
  pub block : cell.block ≡ b
  pub given : complete ≡ true → WereTaken gave stream is_data.bytes

-- The row closed at a tick of the life, and a block of it is present exactly where its data was taken in time, before that tick; each is
-- absent, or what a source gave for the row's instant.
pub record IsRowOfSources (kind : CoreKind) (g : Given) (E : List Entry) (complete : Bool) (gave : List (List (List ℕ × Outcome))) (row : RowView) : Type 0 where
  pub exact : IsExactRow g E row
  pub blocks : (c : ℕ) (f : SectionFields) (b : BlockView) → c < g.columns → section_in_force g exact.of_tick.before c ≡ Some f →
      slice_get row.blocks (place_of g exact.of_tick.before c) ≡ Some b → (b ≡ absent_view f.shape) ⊎ IsOfSource kind complete gave exact.of_tick.before c row.instant f b

-- These bytes are the data frames of these rows, in order, and between them layouts that were in force at some step of the life.
abbrev pub AreFramesOf : Given → Output → List Entry → List RowView → List (List ℕ) → Type 0
AreFramesOf g output E [] [] = Unit {0}
AreFramesOf g output E (row ∷ rows) [] = ⊥
AreFramesOf g output E [] (bytes ∷ sent) = IsLayoutThen g E bytes × AreFramesOf g output E [] sent
AreFramesOf g output E (row ∷ rows) (bytes ∷ sent) =
    ((bytes ≡ wire_of output row) × AreFramesOf g output E rows sent) ⊎ (IsLayoutThen g E bytes × AreFramesOf g output E (row ∷ rows) sent)

-- There is a life of the kind, in which each stream brought what its source gave, in order, with the answers that it has there; where not all
-- receivers came back, that stands among it. What the sink took are data frames of the first rows that were popped, and layouts; of all of
-- them where the run is Ok, and then so many it tells. Each block of these rows is absent, or what a source gave for that instant, and is
-- present exactly where it was taken in time. Their instants strictly rise, above this floor.
pub record KeepsHeadline {S : Type 0} (kind : CoreKind) (g : Given) (told : S → List Heard → Type 0) (sources : List S) (Took : List (List ℕ) → Type 0) (floor : ℕ) (outcome : Result Totals HubFault) : Type 0 where
  pub life : List Entry
  pub is_life : IsLifeOf kind g life
  pub complete : Bool
  pub whole : OnOk outcome (complete ≡ true)
  pub gave : List (List (List ℕ × Outcome))
  pub given : AreFor (HasGiven told (λ s. IsBrought complete (brought s life))) 0 sources gave
  pub all_gave : complete ≡ true → length gave ≡ length sources
  pub sent : List (List ℕ)
  pub took : Took sent
  pub rows : List RowView
  pub frames : AreFramesOf g (output_under kind) life rows sent
  pub first : IsPrefix rows (popped life)
  pub all : OnOk outcome (rows ≡ popped life)
  pub published : IfOk outcome (λ totals. totals.published ≡ length rows)
  pub of_sources : AllByRecursion (IsRowOfSources kind g life complete gave) rows
  pub rise : Rises floor (row_instants rows)

-- what a life is given that begins with what the mark stores
abbrev pub begun_with : CoreKind → Stored → (opening : ℕ) → Given
begun_with kind stored opening = given_of kind stored.start stored.floor stored.counts opening

-- So is every run of a node, and of the merger, that has a source for each stream and begins with what the mark stores: whatever the sources
-- tell, the ticker gives and the sink takes.
abbrev pub RunsKeepHeadline : {S I K : Type 0} (told : S → List Heard → Type 0) (gave : I → List ℕ → Type 0) (took : K → K → List (List ℕ) → Type 0) → Type 0
RunsKeepHeadline {S} {I} {K} told gave took =
    (kind : CoreKind) (opening rate every : ℕ) (sources : List S) (ticker : I) (sink left : K) (before after : Found) (outcome : Result Totals HubFault)
    → length sources ≡ length (senders_of kind)
    → IsOneRun (rules_of kind) (Says kind) (begun_with kind before.stored opening) (output_under kind) rate every told sources (GivesFrom gave ticker) (took sink left) before after outcome
    → KeepsHeadline kind (begun_with kind before.stored opening) told sources (took sink left) before.stored.floor outcome
