use Rattle.std.proofs.Common.{length}
use Rattle.pdc_world.proofs.agree.+are_sources_of.Given as goal

abbrev pub decreases-are_sources_of : goal.decreases-are_sources_of
decreases-are_sources_of l = length l.ids.now
