use Rattle.std.proofs.Common.{◌≡◌, drop, map}
use Rattle.std.specs.List.{list_all}
use Rattle.pdc_row.specs.Rising.{is_near}
use Rattle.pdc_row.specs.RowView.{row_instants, row_view}
use Rattle.pdc_plain_steps.proofs.instants.rows_are_near.Given as goal

abbrev pub invariant-loop-row : goal.invariant-loop-row
invariant-loop-row l = list_all (is_near l.window l.instant) (row_instants (map row_view l.rows)) ≡ list_all (is_near l.window l.instant) (row_instants (map row_view (drop l.row-index l.rows)))
