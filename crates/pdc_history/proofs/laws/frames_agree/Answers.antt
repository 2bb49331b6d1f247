use Rattle.pdc_history.proofs.FramesAgree.{frames_agree, published_agree}
use Rattle.pdc_history.proofs.laws.frames_agree.Goals as goal

pub returns-clause-sent : goal.returns-clause-sent
returns-clause-sent c W H v w i s t words others is a b source count =
    frames_agree c.lives_are_known.ensures c.frames_are_known.ensures c.blocks_are_known.ensures W H v w i s t words others is a b source count

pub returns-clause-published : goal.returns-clause-published
returns-clause-published c W H v w q r s t words others is a b instant source count =
    published_agree c.lives_are_known.ensures c.frames_are_known.ensures c.blocks_are_known.ensures W H v w q r s t words others is a b instant source count
