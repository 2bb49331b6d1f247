use Rattle.std.proofs.Common.{length}
use Rattle.pdc_arrival.proofs.placing.+place_sections.Given as goal

abbrev pub decreases-place_sections : goal.decreases-place_sections
decreases-place_sections l = length l.sources.now
