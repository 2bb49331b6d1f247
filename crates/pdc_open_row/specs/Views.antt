-- What an open instant holds, however a table keeps it.
use Rattle.std.specs.Prelude.{ℕ, Bool, false, List, length, replicate}
use Rattle.pdc_columns.specs.Views.{ColumnView, empty_column}

-- an open instant: its age in ticks, for each stream whether it was taken, and what each column holds
pub record OpenRowView : Type 0 where
  pub instant : ℕ
  pub age : ℕ
  pub taken : List Bool
  pub columns : List ColumnView

-- the row of an instant in which nothing was taken
abbrev pub blank_row : (streams columns instant : ℕ) → OpenRowView
blank_row streams columns instant = record {
  instant = instant;
  age = 0;
  taken = replicate streams false;
  columns = replicate columns empty_column;
}

-- the row with this age in place of its own
abbrev pub at_age : ℕ → OpenRowView → OpenRowView
at_age age row = record row { age = age }

-- the row as one of no instant: an instant that is held is above 0
abbrev pub without_instant : OpenRowView → OpenRowView
without_instant row = record row { instant = 0 }

-- the row once its blocks were handed out: its columns hold nothing
abbrev pub spent : OpenRowView → OpenRowView
spent row = record row { columns = replicate (length row.columns) empty_column }
