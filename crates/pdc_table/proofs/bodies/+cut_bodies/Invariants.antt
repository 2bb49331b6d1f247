use Rattle.std.proofs.Common.{length}
use Rattle.pdc_table.proofs.bodies.+cut_bodies.Given as goal

abbrev pub decreases-cut_bodies : goal.decreases-cut_bodies
decreases-cut_bodies g l = length l.parts.now
