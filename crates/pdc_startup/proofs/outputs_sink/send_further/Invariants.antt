use Rattle.std.proofs.Common.{◌≡◌, List, ℕ}
use Rattle.pdc_startup.proofs.outputs_sink.send_further.Given as goal

abbrev pub invariant-loop-number : goal.invariant-loop-number
invariant-loop-number g l = record {
  kept : (before : g.row.O.Denot) (given : List (List ℕ)) → g.O.Sink.took before l.initial.outputs given → g.O.Sink.took before l.outputs given;
  same : g.O.Sink.failures_of l.outputs ≡ g.O.Sink.failures_of l.initial.outputs;
}
