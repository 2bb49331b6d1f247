use Rattle.std.proofs.Common.{length}
use Rattle.pdc_settings.proofs.distinct.+streams_differ.Given as goal

abbrev pub decreases-streams_differ : goal.decreases-streams_differ
decreases-streams_differ l = length l.pmus.now
