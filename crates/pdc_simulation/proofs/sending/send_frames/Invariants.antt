use Rattle.std.proofs.Common.{◌≤◌}
use Rattle.pdc_simulation.specs.Sent.{HasTaken, IsUpTo, Stands, run_of}
use Rattle.pdc_simulation.proofs.sending.send_frames.Given as goal

abbrev pub invariant-loop-number : goal.invariant-loop-number
invariant-loop-number g l = record {
  stands : Stands (run_of l.run.simulated.now l.run.first) l.number l.sender.pmu;
  taken : HasTaken g.K.Sink.took (run_of l.run.simulated.now l.run.first) l.config (IsUpTo (run_of l.run.simulated.now l.run.first) l.number) l.initial.sink l.sink;
  more : g.K.Sink.failures_of l.initial.sink ≤ g.K.Sink.failures_of l.sink;
}
