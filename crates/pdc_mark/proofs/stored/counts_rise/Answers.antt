use Rattle.std.proofs.Common.{sym, ◌∙◌}
use Rattle.pdc_mark.proofs.Counts.{are_below-raise}
use Rattle.pdc_mark.proofs.stored.counts_rise.Goals as goal

pub returns : goal.returns
returns c = are_below-raise c.args.counts.now c.args.others.now (c.told-counts ∙ sym c.told-others) c.requires
