use Rattle.std.proofs.Common.{length}
use Rattle.pdc_columns.proofs.parts.+put_parts.Given as goal

abbrev pub decreases-put_parts : goal.decreases-put_parts
decreases-put_parts g l = length l.parts.now
