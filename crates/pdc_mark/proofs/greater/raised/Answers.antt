use Rattle.pdc_mark.proofs.GreaterCounts.{none_raised, some_raised, stays}
use Rattle.pdc_mark.proofs.greater.raised.Goals as goal

pub returns-clause-value : goal.returns-clause-value
returns-clause-value c = some_raised c.args.counts.now c.args.others.now c.raised_each.result c.told-counts c.told-others c.raised_each.ensures.greater

pub returns-clause-same : goal.returns-clause-same
returns-clause-same c = none_raised c.args.counts.now c.args.others.now c.raised_each.result c.told-counts c.told-others c.raised_each.ensures.none

pub returns-clause-stays : goal.returns-clause-stays
returns-clause-stays c = stays c.args.counts.now c.args.others.now c.raised_each.result c.told-counts c.raised_each.ensures.none
