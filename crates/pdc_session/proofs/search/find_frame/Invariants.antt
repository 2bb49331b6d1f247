use Rattle.std.proofs.Common.{◌≡◌, ◌≤◌, ◌-◌}
use Rattle.pdc_session.specs.Counted.{reads_after}
use Rattle.pdc_session.specs.Counting.{faults_of, inner_of, reads_of}
use Rattle.pdc_session.specs.Search.{PassesOver}
use Rattle.pdc_session.proofs.search.find_frame.Given as goal

abbrev pub invariant-loop : goal.invariant-loop
invariant-loop g l = record {
  passes : PassesOver l.id.value l.kind l.counter l.initial.framer l.initial.unread (g.R.Read.remaining (inner_of l.initial.reader)) l.framer l.unread (g.R.Read.remaining (inner_of l.reader));
  few : l.reads ≤ l.initial.reads;
  counted : reads_of l.reader ≡ reads_after (l.initial.reads - l.reads) (reads_of l.initial.reader);
  whole : faults_of l.reader ≡ faults_of l.initial.reader;
}
