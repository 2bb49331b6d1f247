use Rattle.std.proofs.Common.{◌≡◌, drop}
use Rattle.pdc_open_row.specs.pdc_row.Quality.{greatest}
use Rattle.pdc_table.proofs.ring_closing.greatest.Given as goal

abbrev pub invariant-loop-instant : goal.invariant-loop-instant
invariant-loop-instant l = greatest l.greatest (drop l.instant-index l.due) ≡ greatest l.last l.due
