use Rattle.std.proofs.Common.{◌++◌, List, ℕ, Option, take}
use Rattle.pdc_play.specs.Run.{Stands}
use Rattle.pdc_play.proofs.script.Script.feed.Given as goal

abbrev pub invariant-loop-byte : goal.invariant-loop-byte
invariant-loop-byte g l =
    (first : g.row.P.Denot) (start : Option (List ℕ)) (read : List ℕ) → Stands g.P.Plays.replies g.P.Plays.frames first start read l.fn.self.begun.items l.fn.self.lines l.fn.self.events l.fn.player (g.W.Write.contents l.fn.writer)
    → Stands g.P.Plays.replies g.P.Plays.frames first start (read ++ take l.byte-index l.piece) l.self.begun.items l.self.lines l.self.events l.player (g.W.Write.contents l.writer)
