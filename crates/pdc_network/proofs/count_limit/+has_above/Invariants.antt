use Rattle.std.proofs.Common.{length}
use Rattle.pdc_network.proofs.count_limit.+has_above.Given as goal

abbrev pub decreases-has_above : goal.decreases-has_above
decreases-has_above l = length l.sections.now
