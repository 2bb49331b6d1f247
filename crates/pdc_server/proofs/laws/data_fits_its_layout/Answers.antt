use Rattle.pdc_server.proofs.Fitting.{data_fits_its_layout}
use Rattle.pdc_server.proofs.Following.{layouts_are_told_first}
use Rattle.pdc_server.proofs.laws.data_fits_its_layout.Goals as goal

pub returns-clause-fits : goal.returns-clause-fits
returns-clause-fits c = data_fits_its_layout

pub returns-clause-first : goal.returns-clause-first
returns-clause-first c = layouts_are_told_first
