use Rattle.std.proofs.Common.{◌≡◌, ◌++◌, true, false, [], List}
use Rattle.crossbeam_channel.specs.Claims.{view, IsSeatAt}
use Rattle.crossbeam_channel.specs.Ends.{receives_on}
use Rattle.pdc_pipe.specs.declared.message.Message.{Message}
use Rattle.pdc_pipe.specs.Pipe.{log}
use Rattle.pdc_pipe.proofs.senders.drain.Given as goal

abbrev pub invariant-loop : goal.invariant-loop
invariant-loop g l = IsSeatAt (receives_on l.receiver) l.pass × (view l.pass ≡ log false true false [] (view l.pass).taken) × ((rest : List Message) × ((view l.pass).taken ≡ (view l.initial.pass).taken ++ rest))
