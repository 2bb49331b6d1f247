use Rattle.std.proofs.Common.{length}
use Rattle.pdc_plain_steps.proofs.past.+greatest_section.Given as goal

abbrev pub decreases-greatest_section : goal.decreases-greatest_section
decreases-greatest_section l = length l.sections.now
