use Rattle.pdc_align.proofs.ClosingRows.{rows_are_those}
use Rattle.pdc_align.proofs.closing_laws.rows_are_those.Goals as goal

pub returns : goal.returns
returns c g E now h = rows_are_those g E now h
