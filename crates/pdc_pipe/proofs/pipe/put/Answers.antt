use Rattle.std.proofs.Common.{ap}
use Rattle.pdc_pipe.proofs.Pipes.{puts}
use Rattle.pdc_pipe.proofs.pipe.put.Goals as goal

pub send_as-requires-clause-rule : goal.send_as-requires-clause-rule
send_as-requires-clause-rule g c = (puts _ _ _ _ c.requires.goes (ap (λ v. v.puts) c.args.writer.now.puts) c.requires.open, λ _ _ _ _. tt)
