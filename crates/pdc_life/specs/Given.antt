-- What is given to a life.
use Rattle.std.specs.Prelude.{if◌then◌else◌, ◌==◌}
use Rattle.pdc_life.specs.Names.{List, range_with_len, slice_index_or, ℕ}
use Rattle.pdc_row.specs.declared.output.Output.{Output}
use Rattle.pdc_life.specs.declared.timing.WaitKind.{WaitKind}

-- What does not change in a life, and what it begins with. Of settings a life needs no more than this: with one lane there is a
-- stream for each column, with two there are two streams, and each brings cells for all columns.
pub record Given : Type 0 where
  -- what the frames that go out say
  pub output : Output
  -- how long an open instant waits, counted in ticks or in instants
  pub wait : ℕ
  pub wait_kind : WaitKind
  -- how far apart held instants may lie, and how far above now
  pub window : ℕ
  pub ahead : ℕ
  pub columns : ℕ
  pub lanes : ℕ
  -- the number of the start, and the instant up to which all is published
  pub start : ℕ
  pub floor : ℕ
  -- for each column the count below which no section is held
  pub counts : List ℕ
  -- what counts as now until the first tick
  pub opening : ℕ

-- the numbers of the columns, from 0
abbrev pub columns_of : Given → List ℕ
columns_of g = range_with_len 0 g.columns

-- the numbers of the streams, from 0
abbrev pub streams_of : Given → List ℕ
streams_of g = range_with_len 0 (if g.lanes == 1 then g.columns else 2)

-- the count of a column; past the last one it is 0
abbrev pub count_for : ℕ → List ℕ → ℕ
count_for c counts = slice_index_or counts c 0
