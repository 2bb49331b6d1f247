use Rattle.std.proofs.Common.{length}
use Rattle.pdc_merge.proofs.cells.+write_cells.Given as goal

abbrev pub decreases-write_cells : goal.decreases-write_cells
decreases-write_cells g l = length l.sections.now
