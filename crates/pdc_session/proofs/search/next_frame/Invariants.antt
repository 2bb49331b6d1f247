use Rattle.std.proofs.Common.{◌≡◌, ◌≤◌, ◌-◌, []}
use Rattle.pdc_session.specs.Counted.{reads_after}
use Rattle.pdc_session.specs.Counting.{faults_of, inner_of, reads_of}
use Rattle.pdc_session.specs.Search.{Follows}
use Rattle.pdc_session.proofs.search.next_frame.Given as goal

abbrev pub invariant-loop-reads : goal.invariant-loop-reads
invariant-loop-reads g l = record {
  follows : Follows l.initial.framer l.initial.unread (g.R.Read.remaining (inner_of l.initial.reader)) [] l.framer l.unread (g.R.Read.remaining (inner_of l.reader));
  few : l.reads ≤ l.initial.reads;
  counted : reads_of l.reader ≡ reads_after (l.initial.reads - l.reads) (reads_of l.initial.reader);
  whole : faults_of l.reader ≡ faults_of l.initial.reader;
}

abbrev pub decreases-loop-reads : goal.decreases-loop-reads
decreases-loop-reads g l = l.reads
