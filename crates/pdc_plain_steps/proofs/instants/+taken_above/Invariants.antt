use Rattle.std.proofs.Common.{length}
use Rattle.pdc_plain_steps.proofs.instants.+taken_above.Given as goal

abbrev pub decreases-taken_above : goal.decreases-taken_above
decreases-taken_above l = length l.life.now
