use Rattle.pdc_frame.proofs.Readings.{same_frame, one_fault, no_frame_fault}
use Rattle.pdc_frame.proofs.laws.frames_are_read_in_one_way.Goals as goal

pub returns-clause-same : goal.returns-clause-same
returns-clause-same c = same_frame

pub returns-clause-fault : goal.returns-clause-fault
returns-clause-fault c = one_fault

pub returns-clause-apart : goal.returns-clause-apart
returns-clause-apart c = no_frame_fault
