use Rattle.std.proofs.Common.{length}
use Rattle.pdc_block.proofs.absent_block.+are_all.Given as goal

abbrev pub decreases-are_all : goal.decreases-are_all
decreases-are_all l = length l.words.now
