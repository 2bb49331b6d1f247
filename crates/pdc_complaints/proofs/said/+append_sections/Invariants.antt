use Rattle.std.proofs.Common.{length}
use Rattle.pdc_complaints.proofs.said.+append_sections.Given as goal

abbrev pub decreases-append_sections : goal.decreases-append_sections
decreases-append_sections l = length l.sections.now
