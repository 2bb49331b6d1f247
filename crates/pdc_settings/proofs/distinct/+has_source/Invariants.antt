use Rattle.std.proofs.Common.{length}
use Rattle.pdc_settings.proofs.distinct.+has_source.Given as goal

abbrev pub decreases-has_source : goal.decreases-has_source
decreases-has_source l = length l.pmus.now
