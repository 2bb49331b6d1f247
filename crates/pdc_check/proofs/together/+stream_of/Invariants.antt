use Rattle.std.proofs.Common.{length}
use Rattle.pdc_check.proofs.together.+stream_of.Given as goal

abbrev pub decreases-stream_of : goal.decreases-stream_of
decreases-stream_of l = length l.streams.now
