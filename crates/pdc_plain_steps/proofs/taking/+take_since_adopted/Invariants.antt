use Rattle.std.proofs.Common.{length}
use Rattle.pdc_plain_steps.proofs.taking.+take_since_adopted.Given as goal

abbrev pub decreases-take_since_adopted : goal.decreases-take_since_adopted
decreases-take_since_adopted l = length l.life.now
