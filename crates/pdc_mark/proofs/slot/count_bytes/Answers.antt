use Rattle.std.proofs.Common.{rules}
use Rattle.pdc_mark.specs.Counts.{count_bytes}
use Rattle.pdc_mark.proofs.slot.count_bytes.Goals as goal

pub returns-clause-value : goal.returns-clause-value
unfolding count_bytes
returns-clause-value c = search rules
