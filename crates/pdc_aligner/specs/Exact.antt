-- What the frames of every life are.
use Rattle.std.specs.List.{AllByRecursion}
use Rattle.std.specs.Prelude.{◌≡◌, ◌⊎◌, ℕ, List, ◌++◌, map}
use Rattle.pdc_life.specs.CoreKind.{CoreKind, IsLifeOf, output_under}
use Rattle.pdc_life.specs.Gave.{IsExactRow}
use Rattle.pdc_life.specs.Given.{Given}
use Rattle.pdc_life.specs.Life.{Entry, popped}
use Rattle.pdc_life.specs.Published.{layout_wire}
use Rattle.pdc_log.specs.Among.{IsAmong}
use Rattle.pdc_row.specs.Layout.{wire_of}
use Rattle.pdc_row.specs.Rising.{Rises as IsRising}
use Rattle.pdc_row.specs.RowView.{RowView, row_instants}
use Rattle.pdc_row.specs.declared.output.Output.{Output}
use Rattle.pdc_aligner.specs.Laid.{frames_of}

-- The bytes are the data frame of a row that closed in the life, in which each block is present exactly where its data was taken in time.
pub record IsExactData (g : Given) (output : Output) (E : List Entry) (bytes : List ℕ) : Type 0 where
  pub row : RowView
  pub wire : bytes ≡ wire_of output row
  pub exact : IsExactRow g E row

-- They are the layout that was in force at some step of the life.
pub record IsLayoutThen (g : Given) (E : List Entry) (bytes : List ℕ) : Type 0 where
  pub later : List Entry
  pub before : List Entry
  pub stands : E ≡ later ++ before
  pub second : ℕ
  pub wire : bytes ≡ layout_wire g before second

abbrev pub IsExactFrame : Given → Output → List Entry → List ℕ → Type 0
IsExactFrame g output E bytes = IsExactData g output E bytes ⊎ IsLayoutThen g E bytes

-- In every life of a node, and of the merger, so is each of the first of its frames, however many.
abbrev pub FramesAreExact : Type 0
FramesAreExact =
    (kind : CoreKind) (g : Given) (E : List Entry) (rate every : ℕ) (sent rest : List (List ℕ)) → IsLifeOf kind g E → frames_of g (output_under kind) rate every E ≡ sent ++ rest →
    AllByRecursion (IsExactFrame g (output_under kind) E) sent

-- The data frames among them are those of the rows that were popped, in order,
abbrev pub RowsAreSent : Type 0
RowsAreSent = (g : Given) (output : Output) (E : List Entry) (rate every : ℕ) → IsAmong (map (wire_of output) (popped E)) (frames_of g output rate every E)

-- whose instants strictly rise, above the floor.
abbrev pub PoppedRise : Type 0
PoppedRise = (kind : CoreKind) (g : Given) (E : List Entry) → IsLifeOf kind g E → IsRising g.floor (row_instants (popped E))
