use Rattle.std.proofs.Common.{ap, ◌∙◌}
use Rattle.std.specs.Ordering.{is_lt}
use Rattle.pdc_mark.specs.Counts.{are_below}
use Rattle.pdc_mark.proofs.stored.are_counts_below.Goals as goal

pub returns : goal.returns
unfolding are_below
returns c = c.is_lt.ensures ∙ ap is_lt c.cmp.ensures
