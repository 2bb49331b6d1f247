use Rattle.std.proofs.Common.{ap}
use Rattle.pdc_pipe.proofs.Pipes.{closes}
use Rattle.pdc_pipe.proofs.pipe.close.Goals as goal

pub send_as-requires-clause-rule : goal.send_as-requires-clause-rule
send_as-requires-clause-rule g c = (closes _ _ _ (ap (λ v. v.puts) c.args.writer.now.puts) c.requires.open, λ _ _ _ _. tt)
