use Rattle.pdc_play.specs.Written.{asked_in}
use Rattle.pdc_play.proofs.Playing.{played}
use Rattle.pdc_play.proofs.telling.play_text.Goals as goal

pub returns-in-Ok-clause-comes : goal.returns-in-Ok-clause-comes
returns-in-Ok-clause-comes g c =
    played g.P.Plays.replies g.P.Plays.refuses g.P.Plays.frames c.args.player.now c.args.text.now c.play_written.new.player c.args.number c.args.at (g.W.Write.contents c.args.writer.now) (g.W.Write.contents c.play_written.new.writer) (asked_in c.in-Ok.written) c.play_written.result c.in-Ok.ensures.event c.play_written.ensures.comes
