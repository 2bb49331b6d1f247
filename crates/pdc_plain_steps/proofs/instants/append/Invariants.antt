use Rattle.std.proofs.Common.{◌≡◌, ◌++◌, map, take}
use Rattle.pdc_row.specs.RowView.{row_view}
use Rattle.pdc_plain_steps.proofs.instants.append.Given as goal

abbrev pub invariant-loop-row : goal.invariant-loop-row
invariant-loop-row l = map row_view l.rows.items ≡ map row_view l.initial.rows.items ++ map row_view (take l.row-index l.more)
