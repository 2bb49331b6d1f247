use Rattle.std.proofs.Common.{◌≡◌, map, drop}
use Rattle.pdc_row.specs.Quality.{greatest}
use Rattle.pdc_row.specs.RowView.{row_instants, row_view}
use Rattle.pdc_plain_steps.proofs.past.greatest.Given as goal

abbrev pub invariant-loop-row : goal.invariant-loop-row
invariant-loop-row l = greatest l.greatest (row_instants (map row_view (drop l.row-index l.rows))) ≡ greatest l.last (row_instants (map row_view l.rows))
