use Rattle.pdc_frame.proofs.CommandReadings.{one_command, one_fault, no_fault}
use Rattle.pdc_frame.proofs.command_laws.commands_are_read_in_one_way.Goals as goal

pub returns-clause-same : goal.returns-clause-same
returns-clause-same c = one_command c.words_are_their_bytes.ensures

pub returns-clause-fault : goal.returns-clause-fault
returns-clause-fault c = one_fault

pub returns-clause-apart : goal.returns-clause-apart
returns-clause-apart c = no_fault c.words_are_their_bytes.ensures
