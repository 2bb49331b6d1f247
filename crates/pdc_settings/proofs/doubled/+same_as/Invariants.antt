use Rattle.std.proofs.Common.{length}
use Rattle.pdc_settings.proofs.doubled.+same_as.Given as goal

abbrev pub decreases-same_as : goal.decreases-same_as
decreases-same_as l = length l.others.now
