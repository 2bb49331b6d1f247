use Rattle.std.proofs.Common.{length}
use Rattle.pdc_settings.proofs.doubled.+doubled_in.Given as goal

abbrev pub decreases-doubled_in : goal.decreases-doubled_in
decreases-doubled_in l = length l.numbers.now
