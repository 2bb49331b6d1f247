use Rattle.std.proofs.Common.{length}
use Rattle.pdc_check.proofs.reading.+push_sources.Given as goal

abbrev pub decreases-push_sources : goal.decreases-push_sources
decreases-push_sources l = length l.pmus.now
