use Rattle.std.proofs.Common.{length}
use Rattle.pdc_merge.proofs.answering.+has_count_conflict.Given as goal

abbrev pub decreases-has_count_conflict : goal.decreases-has_count_conflict
decreases-has_count_conflict g l = length l.sections.now
