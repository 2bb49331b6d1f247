use Rattle.std.proofs.Common.{length}
use Rattle.pdc_check.proofs.alone.+push_twice.Given as goal

abbrev pub decreases-push_twice : goal.decreases-push_twice
decreases-push_twice l = length l.others.now
