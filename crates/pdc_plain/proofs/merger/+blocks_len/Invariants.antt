use Rattle.std.proofs.Common.{length}
use Rattle.pdc_plain.proofs.merger.+blocks_len.Given as goal

abbrev pub decreases-blocks_len : goal.decreases-blocks_len
decreases-blocks_len l = length l.sections.now
