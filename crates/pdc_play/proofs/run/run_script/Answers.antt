use Rattle.std.proofs.Common.{arith}
use Rattle.pdc_play.specs.Counted.{reader_of}
use Rattle.pdc_play.proofs.Playing.{none_of, nothing_read, read_on, run_ends, the_ending}
use Rattle.pdc_play.proofs.run.run_script.Goals as goal

pub loop-init : goal.loop-init
loop-init g c = record {
  reading = nothing_read g.P.Plays.replies g.P.Plays.frames c.args.player.now (g.W.Write.contents c.args.writer.now) (g.R.Read.remaining (reader_of c.args.reader.now)) c.new-script.result.begun.items c.new-script.result.lines c.new-script.result.events c.new-script.ensures.begun c.new-script.ensures.lines c.new-script.ensures.events;
  most = omega arith;
  least = omega arith;
}

pub loop-preserved : goal.loop-preserved
loop-preserved g c = record {
  reading =
      read_on g.P.Plays.replies g.P.Plays.refuses g.P.Plays.frames c.args.player.now (g.W.Write.contents c.args.writer.now) c.loop.script.begun.items c.play_piece.new.script.begun.items c.loop.script.lines c.loop.script.events c.play_piece.new.script.lines c.play_piece.new.script.events c.loop.player c.play_piece.new.player (g.R.Read.remaining (reader_of c.args.reader.now)) (g.R.Read.remaining (reader_of c.loop.reader)) (g.R.Read.remaining (reader_of c.play_piece.new.reader)) (g.W.Write.contents c.loop.writer) (g.W.Write.contents c.play_piece.new.writer) (g.W.Write.contents c.flush.new.self) c.in_ok-comes.comes
      c.loop.invariant.reading c.in_ok-comes.ensures.comes (none_of c.in_ok-comes.comes c.in_default.not-Some) c.flush.ensures.bytes;
  most = omega (arith, c.loop.invariant.most, c.in_ok-comes.ensures.reads);
  least = omega (arith, c.loop.invariant.least, c.in_ok-comes.ensures.reads);
}

pub returns-in-Some-clause-ends : goal.returns-in-Some-clause-ends
returns-in-Some-clause-ends g c =
    let r = run_ends g.P.Plays.replies g.P.Plays.refuses g.P.Plays.frames c.args.player.now (g.W.Write.contents c.args.writer.now) c.loop.script.begun.items c.play_piece.new.script.begun.items c.loop.script.lines c.loop.script.events c.play_piece.new.script.lines c.play_piece.new.script.events c.loop.player c.play_piece.new.player (g.R.Read.remaining (reader_of c.args.reader.now)) (g.R.Read.remaining (reader_of c.loop.reader)) (g.R.Read.remaining (reader_of c.play_piece.new.reader)) (g.W.Write.contents c.loop.writer) (g.W.Write.contents c.play_piece.new.writer) (g.W.Write.contents c.flush.new.self) c.in_ok-comes.comes c.in-Some.ending
    c.loop.invariant.reading c.in_ok-comes.ensures.comes c.in-Some.is c.flush.ensures.bytes in
    (r.read, r.consumed, r.ended)

pub returns-in-Some-clause-whole : goal.returns-in-Some-clause-whole
returns-in-Some-clause-whole g c = λ e.
    let r = run_ends g.P.Plays.replies g.P.Plays.refuses g.P.Plays.frames c.args.player.now (g.W.Write.contents c.args.writer.now) c.loop.script.begun.items c.play_piece.new.script.begun.items c.loop.script.lines c.loop.script.events c.play_piece.new.script.lines c.play_piece.new.script.events c.loop.player c.play_piece.new.player (g.R.Read.remaining (reader_of c.args.reader.now)) (g.R.Read.remaining (reader_of c.loop.reader)) (g.R.Read.remaining (reader_of c.play_piece.new.reader)) (g.W.Write.contents c.loop.writer) (g.W.Write.contents c.play_piece.new.writer) (g.W.Write.contents c.flush.new.self) c.in_ok-comes.comes c.in-Some.ending
    c.loop.invariant.reading c.in_ok-comes.ensures.comes c.in-Some.is c.flush.ensures.bytes in
    r.whole (the_ending c.in-Some.ending e)
