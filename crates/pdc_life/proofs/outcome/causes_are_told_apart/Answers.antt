use Rattle.pdc_life.proofs.Causes.{told_apart}
use Rattle.pdc_life.proofs.outcome.causes_are_told_apart.Goals as goal

pub returns : goal.returns
returns c a b e = told_apart a b e
