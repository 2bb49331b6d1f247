use Rattle.std.proofs.Common.{length}
use Rattle.pdc_keys.proofs.nearest.+nearest_of.Given as goal

abbrev pub decreases-nearest_of : goal.decreases-nearest_of
decreases-nearest_of l = length l.keys.now
