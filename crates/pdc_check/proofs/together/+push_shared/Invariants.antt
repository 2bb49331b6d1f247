use Rattle.std.proofs.Common.{length}
use Rattle.pdc_check.proofs.together.+push_shared.Given as goal

abbrev pub decreases-push_shared : goal.decreases-push_shared
decreases-push_shared l = length l.others.now
