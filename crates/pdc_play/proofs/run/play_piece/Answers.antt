use Rattle.std.proofs.Common.{ℕ, List, take, subst, sym}
use Rattle.std.specs.Io.KnownBytes.{Consumes}
use Rattle.pdc_play.specs.Counted.{reader_of}
use Rattle.pdc_play.proofs.Playing.{at_end, ended_there, fed, no_byte_came, nothing_came}
use Rattle.pdc_play.proofs.run.play_piece.Goals as goal

pub returns-in-Ok-clause-comes : goal.returns-in-Ok-clause-comes
returns-in-Ok-clause-comes g c = λ first start read s.
    fed g.P.Plays.replies g.P.Plays.refuses g.P.Plays.frames first start read (take c.in-Ok.len c.deref.result.now) c.feed.new.self.begun.items c.feed.new.self.lines c.feed.new.self.events c.feed.new.player (g.R.Read.remaining (reader_of c.args.reader.now)) (g.R.Read.remaining (reader_of c.fill.new.reader)) (g.W.Write.contents c.feed.new.writer) c.feed.result
    (subst (λ (bytes : List ℕ). Consumes (g.R.Read.remaining (reader_of c.args.reader.now)) (g.R.Read.remaining (reader_of c.fill.new.reader)) (take c.in-Ok.len bytes)) (sym c.deref.ensures.value) c.in-Ok.ensures.bytes)
    (c.feed.ensures.comes first start read s)

pub returns-in-Err-clause-comes : goal.returns-in-Err-clause-comes
returns-in-Err-clause-comes g c = λ first start read s.
    nothing_came g.P.Plays.replies g.P.Plays.refuses g.P.Plays.frames first start read c.args.script.now.begun.items c.args.script.now.lines c.args.script.now.events c.args.player.now (g.R.Read.remaining (reader_of c.args.reader.now)) (g.R.Read.remaining (reader_of c.fill.new.reader)) (g.W.Write.contents c.args.writer.now)
    s c.in-Err.ensures.err

pub returns-in_ok-end-in-Ok-eq0-clause-comes : goal.returns-in_ok-end-in-Ok-eq0-clause-comes
returns-in_ok-end-in-Ok-eq0-clause-comes g c = λ first start read s.
    at_end g.P.Plays.replies g.P.Plays.refuses g.P.Plays.frames first start read c.end.new.self.begun.items c.end.new.self.lines c.end.new.self.events c.end.new.player (g.R.Read.remaining (reader_of c.args.reader.now)) (g.R.Read.remaining (reader_of c.fill.new.reader)) (g.W.Write.contents c.end.new.writer) c.in_ok-end-in-Ok-eq0.field-0
    (c.in_ok-end-in-Ok-eq0.ensures.comes first start read s)
    (no_byte_came (g.R.Read.remaining (reader_of c.args.reader.now)) (g.R.Read.remaining (reader_of c.fill.new.reader)) c.fill.new.self.bytes.items c.in-Ok-eq0.field-0 c.fill.result c.in-Ok-eq0.is c.in-Ok-eq0.field-0-test c.fill.ensures.bytes)
    (ended_there (g.R.Read.remaining (reader_of c.fill.new.reader)) c.in-Ok-eq0.field-0 c.fill.result c.in-Ok-eq0.is c.in-Ok-eq0.field-0-test c.fill.ensures.end)
