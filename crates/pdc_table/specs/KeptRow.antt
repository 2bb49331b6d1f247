-- A row that a caller keeps, and pops into.
use Rattle.std.specs.Prelude.{Bool, true, false, Option, Some, None}
use Rattle.pdc_open_row.specs.pdc_memory.Held.{HeldValue}
use Rattle.pdc_open_row.specs.pdc_row.RowView.{RowView, row_view}
use Rattle.pdc_open_row.specs.pdc_row.declared.due_row.DueRow.{DueRow}

-- the row that was popped into the one that is kept, where there was one
abbrev pub popped_into : Bool → HeldValue DueRow → Option RowView
popped_into true row = Some (row_view row.value)
popped_into false row = None
