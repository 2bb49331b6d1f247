use Rattle.std.proofs.Common.{length}
use Rattle.pdc_plain_steps.proofs.taking.+was_taken.Given as goal

abbrev pub decreases-was_taken : goal.decreases-was_taken
decreases-was_taken l = length l.life.now
