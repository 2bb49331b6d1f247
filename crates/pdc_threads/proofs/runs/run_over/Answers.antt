use Rattle.std.proofs.Common.{rules}
use Rattle.pdc_threads.proofs.runs.run_over.Goals as goal

pub scoped-requires : goal.scoped-requires
scoped-requires g c = record { at = λ x. search (rules, c.requires) }
