use Rattle.std.proofs.Common.{length}
use Rattle.pdc_row.proofs.absent.+write_no_values.Given as goal

abbrev pub decreases-write_no_values : goal.decreases-write_no_values
decreases-write_no_values l = length l.bytes.now
