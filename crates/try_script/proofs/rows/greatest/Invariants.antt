use Rattle.std.proofs.Common.{◌≡◌, drop}
use Rattle.pdc_table.specs.OpenInstants.{instants_of}
use Rattle.pdc_row.specs.Quality.{greatest}
use Rattle.try_script.proofs.rows.greatest.Given as goal

abbrev pub invariant-loop-row : goal.invariant-loop-row
invariant-loop-row l = greatest l.greatest (instants_of (drop l.row-index l.rows)) ≡ greatest l.last (instants_of l.rows)
