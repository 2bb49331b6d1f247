use Rattle.std.proofs.Common.{length}
use Rattle.pdc_check.proofs.alone.+push_open.Given as goal

abbrev pub decreases-push_open : goal.decreases-push_open
decreases-push_open l = length l.streams.now
