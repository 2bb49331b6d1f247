use Rattle.std.proofs.Common.{length}
use Rattle.pdc_world.proofs.agree.+have_alike.Given as goal

abbrev pub decreases-have_alike : goal.decreases-have_alike
decreases-have_alike l = length l.pmus.now
