use Rattle.pdc_history.proofs.Marks.{instants_rise}
use Rattle.pdc_history.proofs.laws.instants_rise.Goals as goal

pub returns : goal.returns
returns c W H who is = instants_rise c.lives_are_known.ensures W H who is
