use Rattle.std.proofs.Common.{ap}
use Rattle.pdc_pipe.proofs.Pipes.{takes}
use Rattle.pdc_pipe.proofs.pipe.take_next.Goals as goal

pub recv_as-requires-clause-rule : goal.recv_as-requires-clause-rule
recv_as-requires-clause-rule g c = (takes _ _ (ap (λ v. v.takes) c.requires.seat.1), λ _ _ _ _. tt)
