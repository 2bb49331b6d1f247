use Rattle.std.proofs.Common.{length}
use Rattle.pdc_plain_steps.proofs.taking.+age_of.Given as goal

abbrev pub decreases-age_of : goal.decreases-age_of
decreases-age_of l = length l.life.now
