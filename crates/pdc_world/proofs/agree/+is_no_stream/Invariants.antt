use Rattle.std.proofs.Common.{length}
use Rattle.pdc_world.proofs.agree.+is_no_stream.Given as goal

abbrev pub decreases-is_no_stream : goal.decreases-is_no_stream
decreases-is_no_stream l = length l.pmus.now
