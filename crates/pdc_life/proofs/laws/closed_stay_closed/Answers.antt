use Rattle.pdc_life.proofs.InTime.{closed_stay_closed}
use Rattle.pdc_life.proofs.laws.closed_stay_closed.Goals as goal

pub returns : goal.returns
returns c kind g E s i quality payload h = closed_stay_closed c.numbers_rise.ensures kind g E s i quality payload h
