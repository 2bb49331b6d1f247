use Rattle.std.proofs.Common.{◌+◌, ◌≤◌}
use Rattle.pdc_play.specs.Counted.{reader_of, reads_of}
use Rattle.pdc_play.specs.Script.{counted}
use Rattle.pdc_play.proofs.Playing.{Reading}
use Rattle.pdc_play.proofs.run.run_script.Given as goal

abbrev pub invariant-loop : goal.invariant-loop
invariant-loop g l = record {
  reading : Reading g.P.Plays.replies g.P.Plays.frames l.fn.player (g.W.Write.contents l.fn.writer) l.script.begun.items l.script.lines l.script.events l.player (g.R.Read.remaining (reader_of l.fn.reader)) (g.R.Read.remaining (reader_of l.reader)) (g.W.Write.contents l.writer);
  most : reads_of l.reader ≤ reads_of l.fn.reader + l.counter;
  least : counted (reads_of l.fn.reader + l.counter) ≤ reads_of l.reader;
}
