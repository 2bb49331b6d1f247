use Rattle.pdc_row.proofs.Rising.{numbers_rise}
use Rattle.pdc_row.proofs.laws.numbers_rise.Goals as goal

pub returns : goal.returns
returns c = numbers_rise
