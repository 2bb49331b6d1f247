use Rattle.std.proofs.Common.{length}
use Rattle.pdc_check.proofs.alone.+push_ports.Given as goal

abbrev pub decreases-push_ports : goal.decreases-push_ports
decreases-push_ports l = length l.ports.now
