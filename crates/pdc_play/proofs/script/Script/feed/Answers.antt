use Rattle.std.proofs.Common.{List, ℕ, ◌+◌, ◌++◌, take, drop, subst, arith}
use Rattle.pdc_play.proofs.Playing.{parts}
use Rattle.pdc_play.specs.Run.{HasEndedEarly}
use Rattle.pdc_play.proofs.script.Script.feed.Goals as goal

pub returns-in-Some-clause-comes : goal.returns-in-Some-clause-comes
returns-in-Some-clause-comes g c = λ first start read s.
    let i = c.loop-byte.byte-index in
    let piece = c.args.piece.now in
    subst (λ (bs : List ℕ). HasEndedEarly g.P.Plays.replies g.P.Plays.refuses g.P.Plays.frames first start bs c.in-Some.ending c.take.new.player (g.W.Write.contents c.take.new.writer))
    (parts read piece i (omega arith))
    ((rw c.in-Some.is at (c.in_ok-ending.ensures.comes first start (read ++ take i piece) (c.loop-byte.invariant first start read s))) (drop (i + 1) piece))
