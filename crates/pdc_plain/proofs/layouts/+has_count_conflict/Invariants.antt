use Rattle.std.proofs.Common.{length}
use Rattle.pdc_plain.proofs.layouts.+has_count_conflict.Given as goal

abbrev pub decreases-has_count_conflict : goal.decreases-has_count_conflict
decreases-has_count_conflict l = length l.sections.now
