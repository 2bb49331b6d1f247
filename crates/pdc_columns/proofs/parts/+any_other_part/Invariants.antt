use Rattle.std.proofs.Common.{length}
use Rattle.pdc_columns.proofs.parts.+any_other_part.Given as goal

abbrev pub decreases-any_other_part : goal.decreases-any_other_part
decreases-any_other_part g l = length l.parts.now
