use Rattle.std.proofs.Common.{rules}
use Rattle.pdc_pipe.proofs.Pipes.{begins, forks}
use Rattle.pdc_pipe.proofs.ends.channel.Goals as goal

pub bounded_with-requires-clause-rule : goal.bounded_with-requires-clause-rule
bounded_with-requires-clause-rule c = begins

pub another-reader-requires-clause-rule : goal.another-reader-requires-clause-rule
another-reader-requires-clause-rule c = forks _ _ (search rules) (search rules)
