use Rattle.std.proofs.Common.{◌≡◌, ◌≤◌, true, false, []}
use Rattle.crossbeam_channel.specs.Claims.{view, IsSeatAt}
use Rattle.crossbeam_channel.specs.Ends.{receives_on}
use Rattle.pdc_pipe.specs.Pipe.{log}
use Rattle.pdc_pipe.specs.Sequence.{bytes_of}
use Rattle.pdc_pipe.proofs.senders.hand_on.Given as goal

abbrev pub invariant-loop : goal.invariant-loop
invariant-loop g l =
    IsSeatAt (receives_on l.receiver) l.pass × (view l.pass ≡ log false true false [] (view l.pass).taken)
    × g.K.Sink.took l.initial.sink l.sink (bytes_of (view l.pass).taken) × (g.K.Sink.failures_of l.initial.sink ≤ g.K.Sink.failures_of l.sink)
