use Rattle.std.proofs.Common.{length}
use Rattle.pdc_plain.proofs.publishing.+closed.Given as goal

abbrev pub decreases-closed : goal.decreases-closed
decreases-closed l = length l.life.now
