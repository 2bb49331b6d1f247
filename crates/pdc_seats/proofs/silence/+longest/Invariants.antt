use Rattle.std.proofs.Common.{length}
use Rattle.pdc_seats.proofs.silence.+longest.Given as goal

abbrev pub decreases-longest : goal.decreases-longest
decreases-longest l = length l.silences.now
