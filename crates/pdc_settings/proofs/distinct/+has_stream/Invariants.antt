use Rattle.std.proofs.Common.{length}
use Rattle.pdc_settings.proofs.distinct.+has_stream.Given as goal

abbrev pub decreases-has_stream : goal.decreases-has_stream
decreases-has_stream l = length l.pmus.now
