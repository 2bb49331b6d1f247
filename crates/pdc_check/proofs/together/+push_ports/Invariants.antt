use Rattle.std.proofs.Common.{length}
use Rattle.pdc_check.proofs.together.+push_ports.Given as goal

abbrev pub decreases-push_ports : goal.decreases-push_ports
decreases-push_ports l = length l.ones.now
