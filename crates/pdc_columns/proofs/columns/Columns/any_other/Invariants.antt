use Rattle.std.proofs.Common.{◌≡◌, ℕ, drop}
use Rattle.pdc_columns.specs.Taking.{cells_in, conflicts}
use Rattle.pdc_columns.proofs.columns.Columns.any_other.Given as goal

abbrev pub invariant-loop-column : goal.invariant-loop-column
invariant-loop-column g l = (quality : ℕ) → conflicts l.lane (cells_in g.B.Offered.view (drop l.column-index l.cells) quality) l.self ≡ conflicts l.lane (cells_in g.B.Offered.view l.cells quality) l.self
