use Rattle.std.proofs.Common.{length}
use Rattle.pdc_plain_steps.proofs.past.+held_section.Given as goal

abbrev pub decreases-held_section : goal.decreases-held_section
decreases-held_section l = length l.life.now
