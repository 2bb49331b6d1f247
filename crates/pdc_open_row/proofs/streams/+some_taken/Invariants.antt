use Rattle.std.proofs.Common.{length}
use Rattle.pdc_open_row.proofs.streams.+some_taken.Given as goal

abbrev pub decreases-some_taken : goal.decreases-some_taken
decreases-some_taken l = length l.required.now
