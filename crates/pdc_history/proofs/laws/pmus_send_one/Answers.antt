use Rattle.pdc_history.proofs.One.{one_body, one_section, pmus_send_their_own}
use Rattle.pdc_history.proofs.laws.pmus_send_one.Goals as goal

pub returns-clause-own : goal.returns-clause-own
returns-clause-own c W H h p pmu bytes fields is listed among of_stream =
    pmus_send_their_own c.lives_are_known.ensures c.frames_are_known.ensures W H h p pmu bytes fields is listed among of_stream

pub returns-clause-body : goal.returns-clause-body
returns-clause-body c W H is p pmu bytes other i q r payload body listed a b d e =
    one_body c.lives_are_known.ensures c.frames_are_known.ensures W H p pmu bytes other i q r payload body is listed a b d e

pub returns-clause-section : goal.returns-clause-section
returns-clause-section c W H is p pmu bytes other s t listed a b d e same =
    one_section c.lives_are_known.ensures c.frames_are_known.ensures W H p pmu bytes other s t is listed a b d e same
