use Rattle.std.proofs.Common.{length}
use Rattle.pdc_block.proofs.in_place.+read_into.Given as goal

abbrev pub decreases-read_into : goal.decreases-read_into
decreases-read_into l = length l.words.now
