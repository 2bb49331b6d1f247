use Rattle.std.proofs.Common.{length}
use Rattle.pdc_plain_steps.proofs.past.+cleared_count.Given as goal

abbrev pub decreases-cleared_count : goal.decreases-cleared_count
decreases-cleared_count l = length l.life.now
