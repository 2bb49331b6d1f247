use Rattle.std.proofs.Common.{length}
use Rattle.pdc_plain_steps.proofs.taking.+take_ever.Given as goal

abbrev pub decreases-take_ever : goal.decreases-take_ever
decreases-take_ever l = length l.life.now
