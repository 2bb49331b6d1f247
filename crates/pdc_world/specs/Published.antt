-- What is seen of rows that were published.
use Rattle.std.specs.{List.{AllByRecursion, slice_get}, Prelude.{◌≡◌, List, Some, ℕ}}
use Rattle.pdc_life.specs.Reading.{IsData}
use Rattle.pdc_history.specs.{Seen.{Seen, stream_in}, World.{Who}}
use Rattle.pdc_history.specs.{declared.reply.Published.{Published}, Handed.{who_of}}
use Rattle.pdc_world.specs.Seen.{AreRising, instants_of}

-- Over all lives of an owner the instants that it published strictly rise.
abbrev pub InstantsRise : List Published → Type 0
InstantsRise rows = (who : Who) → AreRising (instants_of who rows)

-- The frame of the row is the one with its number among those that were sent: data of its owner for its instant.
pub record IsSentData (seen : Seen) (row : Published) : Type 0 where
  pub bytes : List ℕ
  pub there : slice_get seen.frames row.number ≡ Some bytes
  pub quality : ℕ
  pub payload : List ℕ
  pub is_data : IsData (stream_in seen (who_of row.who)) bytes row.instant quality payload

-- So is that of each row.
abbrev pub RowsAreSentData : Seen → List Published → Type 0
RowsAreSentData seen rows = AllByRecursion (IsSentData seen) rows
