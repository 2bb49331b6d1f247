use Rattle.std.proofs.Common.{length}
use Rattle.pdc_plain_steps.proofs.instants.+waiting.Given as goal

abbrev pub decreases-waiting : goal.decreases-waiting
decreases-waiting l = length l.life.now
