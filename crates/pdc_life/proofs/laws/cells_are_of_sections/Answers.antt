use Rattle.pdc_life.proofs.InForce.{cells_are_of_sections}
use Rattle.pdc_life.proofs.laws.cells_are_of_sections.Goals as goal

pub returns : goal.returns
returns c g E s n i cell run h = cells_are_of_sections g E s n i cell run h
