use Rattle.pdc_station.proofs.Published as known
use Rattle.pdc_station.proofs.laws.rows_are_published.Goals as goal

pub returns-clause-pops : goal.returns-clause-pops
returns-clause-pops c = known.pops
