use Rattle.pdc_station.proofs.Calls as known
use Rattle.pdc_station.proofs.laws.calls_publish_what_was_popped.Goals as goal

pub returns-clause-bytes : goal.returns-clause-bytes
returns-clause-bytes c = known.appended

pub returns-clause-rise : goal.returns-clause-rise
returns-clause-rise c = known.rise

pub returns-clause-lost : goal.returns-clause-lost
returns-clause-lost c = known.apart

pub returns-clause-rows : goal.returns-clause-rows
returns-clause-rows c = known.of_life

pub returns-clause-all : goal.returns-clause-all
returns-clause-all c = known.all_sent
