use Rattle.std.proofs.Common.{length}
use Rattle.pdc_settings.proofs.distinct.+sources_differ.Given as goal

abbrev pub decreases-sources_differ : goal.decreases-sources_differ
decreases-sources_differ l = length l.pmus.now
