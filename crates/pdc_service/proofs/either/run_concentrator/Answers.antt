use Rattle.std.proofs.Common.{refl}
use Rattle.pdc_aligner.specs.Device.{standing_of}
use Rattle.pdc_publisher.specs.Publisher.{mark_in}
use Rattle.pdc_threads.specs.OneRun.{found_by}
use Rattle.pdc_service.proofs.either.run_concentrator.Goals as goal

pub returns-in-Node-clause-over : goal.returns-in-Node-clause-over
returns-in-Node-clause-over g c =
    let ran = c.run_node.result in record {
      left = ran.sink;
      after = found_by (g.M.Mark.stored (mark_in ran.publisher)) (standing_of ran.publisher) (g.K.Sink.failures_of ran.sink);
      failures = refl;
      sent = c.run_node.ensures.sent;
      one = rw c.in-Node.is c.run_node.ensures.one;
    }

pub returns-in-Merger-clause-over : goal.returns-in-Merger-clause-over
returns-in-Merger-clause-over g c =
    let ran = c.run_merger.result in record {
      left = ran.sink;
      after = found_by (g.M.Mark.stored (mark_in ran.publisher)) (standing_of ran.publisher) (g.K.Sink.failures_of ran.sink);
      failures = refl;
      sent = c.run_merger.ensures.sent;
      one = rw c.in-Merger.is c.run_merger.ensures.one;
    }
