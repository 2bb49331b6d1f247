use Rattle.std.proofs.Common.{length}
use Rattle.pdc_plain_steps.proofs.past.+now_of.Given as goal

abbrev pub decreases-now_of : goal.decreases-now_of
decreases-now_of l = length l.life.now
