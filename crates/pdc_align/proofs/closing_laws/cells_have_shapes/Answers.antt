use Rattle.pdc_align.proofs.ClosingRows.{cells_have_shapes}
use Rattle.pdc_align.proofs.closing_laws.cells_have_shapes.Goals as goal

pub returns : goal.returns
returns c g E run = cells_have_shapes c.cells_are_of_sections.ensures g E run
