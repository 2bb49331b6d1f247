use Rattle.std.proofs.Common.{length}
use Rattle.pdc_plain.proofs.merger.+cells_under.Given as goal

abbrev pub decreases-cells_under : goal.decreases-cells_under
decreases-cells_under l = length l.sections.now
