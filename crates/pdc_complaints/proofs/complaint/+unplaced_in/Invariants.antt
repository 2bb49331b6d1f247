use Rattle.std.proofs.Common.{length}
use Rattle.pdc_complaints.proofs.complaint.+unplaced_in.Given as goal

abbrev pub decreases-unplaced_in : goal.decreases-unplaced_in
decreases-unplaced_in l = length l.sources.now
