use Rattle.pdc_world.proofs.HeadlineNames.{FramesAgree, rows_of, seen_of}
use Rattle.pdc_world.proofs.{Genuine.{agree, published_agree}, Worlds.{of_frames}}
use Rattle.pdc_world.proofs.laws.frames_agree.Goals as goal

pub returns-clause-sent : goal.returns-clause-sent
returns-clause-sent g c =
    agree (seen_of c.args.world.now) (of_frames FramesAgree c.args.world.now c.frames_agree.ensures.sent c.holds_some_history.ensures)

pub returns-clause-published : goal.returns-clause-published
returns-clause-published g c =
    published_agree (seen_of c.args.world.now) (rows_of c.args.world.now)
    (agree (seen_of c.args.world.now) (of_frames FramesAgree c.args.world.now c.frames_agree.ensures.sent c.holds_some_history.ensures))
