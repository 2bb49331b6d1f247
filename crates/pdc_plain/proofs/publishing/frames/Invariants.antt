use Rattle.std.proofs.Common.{◌≡◌, map, take, Vec, ℕ, Global}
use Rattle.pdc_row.specs.RowView.{row_view}
use Rattle.pdc_row.specs.declared.due_row.DueRow.{DueRow}
use Rattle.pdc_row.specs.Layout.{wire_of}
use Rattle.pdc_plain.proofs.publishing.frames.Given as goal

abbrev pub invariant-loop-row : goal.invariant-loop-row
invariant-loop-row l = map (λ (frame : Vec ℕ Global). frame.items) l.frames.items ≡ map (λ (row : DueRow). wire_of l.output (row_view row)) (take l.row-index l.rows)
