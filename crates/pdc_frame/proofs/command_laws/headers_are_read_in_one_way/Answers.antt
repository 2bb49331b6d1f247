use Rattle.pdc_frame.proofs.CommandReadings.{one_text, one_header_fault, no_header_fault}
use Rattle.pdc_frame.proofs.command_laws.headers_are_read_in_one_way.Goals as goal

pub returns-clause-same : goal.returns-clause-same
returns-clause-same c = one_text

pub returns-clause-fault : goal.returns-clause-fault
returns-clause-fault c = one_header_fault

pub returns-clause-apart : goal.returns-clause-apart
returns-clause-apart c = no_header_fault
