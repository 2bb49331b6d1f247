use Rattle.std.proofs.Common.{length}
use Rattle.pdc_plain_steps.proofs.past.+changes.Given as goal

abbrev pub decreases-changes : goal.decreases-changes
decreases-changes l = length l.life.now
