use Rattle.pdc_history.proofs.Asked.{asked_is_read_once, causes_are_one, faults_may_not_happen, sent_may_come}
use Rattle.pdc_history.proofs.laws.asked_is_event_or_fault.Goals as goal

pub returns-clause-one_event : goal.returns-clause-one_event
returns-clause-one_event c W H asked a b x y =
    asked_is_read_once c.frames_are_known.ensures c.bytes_are_read_in_one_way.ensures W H asked a b x y

pub returns-clause-one_cause : goal.returns-clause-one_cause
returns-clause-one_cause c W H asked a b x y = causes_are_one c.frames_are_known.ensures W H asked a b x y

pub returns-clause-apart : goal.returns-clause-apart
returns-clause-apart c W H asked cause event x read may = faults_may_not_happen c.frames_are_known.ensures W H asked cause event x read may

pub returns-clause-sent : goal.returns-clause-sent
returns-clause-sent c W H who number event k = sent_may_come W H who number event k
