use Rattle.pdc_life.proofs.Come.{counts_never_fall}
use Rattle.pdc_life.proofs.laws.counts_never_fall.Goals as goal

pub returns : goal.returns
returns c g E F n s run h = counts_never_fall g E F n s run h
