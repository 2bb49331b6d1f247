use Rattle.pdc_play.proofs.Playing.{last_line}
use Rattle.pdc_play.proofs.script.Script.end.Goals as goal

pub returns-clause-comes : goal.returns-clause-comes
returns-clause-comes g c = λ first start read s.
    rw c.unwrap_or.ensures
    (last_line g.P.Plays.replies g.P.Plays.refuses g.P.Plays.frames first start read c.args.self.now.begun.items c.deref.result.now c.args.self.now.lines c.args.self.now.events c.args.player.now c.play_text.new.player (g.W.Write.contents c.args.writer.now) (g.W.Write.contents c.play_text.new.writer) c.saturating_add-lines.result c.saturating_add-at.result c.in_ok-ending.ending
    s c.in_ok-ending.ensures.comes c.deref.ensures.value c.saturating_add-lines.ensures c.saturating_add-at.ensures)
