use Rattle.std.proofs.Common.{◌≡◌, ap, ◌∙◌, Ok, Some, None, refl}
use Rattle.std.specs.Str.Lines.{strip_carriage_return}
use Rattle.pdc_play.proofs.Playing.{line_comes, none_of}
use Rattle.pdc_play.proofs.script.Script.end_line.Goals as goal

pub returns-in-Some-clause-comes : goal.returns-in-Some-clause-comes
returns-in-Some-clause-comes g c = λ first start read s.
    line_comes g.P.Plays.replies g.P.Plays.refuses g.P.Plays.frames first start read c.args.self.now.begun.items c.without_return-text.result.now c.args.self.now.lines c.args.self.now.events c.args.player.now c.play_text.new.player (g.W.Write.contents c.args.writer.now) (g.W.Write.contents c.play_text.new.writer) c.saturating_add-lines.result c.saturating_add-at.result c.args.self.now.begun.items 0 0 (Ok (Some c.in-Some.ending))
    s (rw c.in-Some.is at c.in_ok-ending.ensures.comes) (c.without_return-text.ensures ∙ ap strip_carriage_return c.deref.ensures.value) c.saturating_add-lines.ensures c.saturating_add-at.ensures (λ e. absurd cc)

pub returns-clause-comes : goal.returns-clause-comes
returns-clause-comes g c = λ first start read s.
    let is-none : c.in_ok-ending.field-0 ≡ None = none_of c.in_ok-ending.field-0 c.in_default.not-Some in
    line_comes g.P.Plays.replies g.P.Plays.refuses g.P.Plays.frames first start read c.args.self.now.begun.items c.without_return-text.result.now c.args.self.now.lines c.args.self.now.events c.args.player.now c.play_text.new.player (g.W.Write.contents c.args.writer.now) (g.W.Write.contents c.play_text.new.writer) c.saturating_add-lines.result c.saturating_add-at.result c.clear.new.self.items c.saturating_add-lines.result c.saturating_add-events.result (Ok None)
    s (rw is-none at c.in_ok-ending.ensures.comes) (c.without_return-text.ensures ∙ ap strip_carriage_return c.deref.ensures.value) c.saturating_add-lines.ensures c.saturating_add-at.ensures
    (λ e. (c.clear.ensures.items, refl, rw c.events_of_text.ensures at c.saturating_add-events.ensures))
