use Rattle.std.proofs.Common.{length}
use Rattle.pdc_plain_steps.proofs.past.+last_of.Given as goal

abbrev pub decreases-last_of : goal.decreases-last_of
decreases-last_of l = length l.life.now
