use Rattle.std.proofs.Common.{length}
use Rattle.pdc_plain_steps.proofs.taking.+cell_among.Given as goal

abbrev pub decreases-cell_among : goal.decreases-cell_among
decreases-cell_among l = length l.cells.now
