use Rattle.pdc_align.proofs.Arrivals.{cells_are_put}
use Rattle.pdc_align.proofs.state_laws.cells_are_put.Goals as goal

pub returns : goal.returns
returns c g E s cells are = cells_are_put g E s cells are
