use Rattle.std.proofs.Common.{length}
use Rattle.pdc_keys.proofs.places.+behind_colon.Given as goal

abbrev pub decreases-behind_colon : goal.decreases-behind_colon
decreases-behind_colon l = length l.text.now
