use Rattle.std.proofs.Common.{length}
use Rattle.pdc_table.proofs.laid.+are_laid_out.Given as goal

abbrev pub decreases-are_laid_out : goal.decreases-are_laid_out
decreases-are_laid_out g l = length l.parts.now
