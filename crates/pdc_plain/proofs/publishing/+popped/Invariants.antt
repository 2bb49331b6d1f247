use Rattle.std.proofs.Common.{length}
use Rattle.pdc_plain.proofs.publishing.+popped.Given as goal

abbrev pub decreases-popped : goal.decreases-popped
decreases-popped l = length l.life.now
