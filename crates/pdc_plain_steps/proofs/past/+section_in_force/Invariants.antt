use Rattle.std.proofs.Common.{length}
use Rattle.pdc_plain_steps.proofs.past.+section_in_force.Given as goal

abbrev pub decreases-section_in_force : goal.decreases-section_in_force
decreases-section_in_force l = length l.life.now
