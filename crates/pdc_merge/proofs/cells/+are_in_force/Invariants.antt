use Rattle.std.proofs.Common.{length}
use Rattle.pdc_merge.proofs.cells.+are_in_force.Given as goal

abbrev pub decreases-are_in_force : goal.decreases-are_in_force
decreases-are_in_force g l = length l.sections.now
