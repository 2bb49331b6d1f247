use Rattle.std.proofs.Common.{length}
use Rattle.pdc_complaints.proofs.complaint.+lower_in.Given as goal

abbrev pub decreases-lower_in : goal.decreases-lower_in
decreases-lower_in l = length l.sections.now
