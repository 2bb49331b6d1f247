-- What a frame is answered at the row of its instant, and what it makes of it where it is taken.
use Rattle.std.specs.Prelude.{ℕ, ◌==◌, Bool, true, false, if◌then◌else◌, List, map, Option, Some, None, slice_set, slice_index_or}
use Rattle.pdc_columns.specs.pdc_row.CellView.{CellView}
use Rattle.pdc_columns.specs.Taking.{conflicts, with_cell, with_cells}
use Rattle.pdc_columns.specs.Views.{empty_column}
use Rattle.pdc_open_row.specs.Views.{OpenRowView}
use Rattle.pdc_open_row.specs.declared.outcome.PutOutcome.{PutOutcome}
use Rattle.pdc_open_row.specs.declared.outcome.PutOutcome.TheVariants.{Taken, Duplicate, Conflict}

-- The row after a frame of the stream was taken.
abbrev pub with_frame : (stream lane : ℕ) → List (ℕ × CellView) → OpenRowView → OpenRowView
with_frame stream lane cells row =
    record row { taken = slice_set row.taken stream true; columns = with_cells lane cells row.columns }

-- what a frame is answered at an instant whose row is this: the first to be taken stays
abbrev pub answer_at : Option OpenRowView → (stream lane : ℕ) → List (ℕ × CellView) → PutOutcome
answer_at None stream lane cells = Taken
answer_at (Some row) stream lane cells =
    if slice_index_or row.taken stream false then (if conflicts lane cells row.columns then Conflict else Duplicate) else Taken

abbrev pub is_taken : PutOutcome → Bool
is_taken Taken = true
is_taken _ = false

-- The row without what was taken of a stream: with one lane that is its own column, with two its lane of each column.
abbrev pub without_stream : ℕ → ℕ → OpenRowView → OpenRowView
without_stream lanes stream row = record row {
  taken = slice_set row.taken stream false;
  columns = if lanes == 1 then slice_set row.columns stream empty_column else map (with_cell stream None) row.columns;
}

-- The row without the cells of a column; the streams stay taken.
abbrev pub without_column : ℕ → OpenRowView → OpenRowView
without_column column row = record row { columns = slice_set row.columns column empty_column }
