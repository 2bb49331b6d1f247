use Rattle.pdc_simulation.proofs.Rising.{counts_rise, instants_rise}
use Rattle.pdc_simulation.proofs.laws.what_is_sent_rises.Goals as goal

pub returns-clause-instants : goal.returns-clause-instants
returns-clause-instants c = instants_rise

pub returns-clause-counts : goal.returns-clause-counts
returns-clause-counts c = counts_rise
