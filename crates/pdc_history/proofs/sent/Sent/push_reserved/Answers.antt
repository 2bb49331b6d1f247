use Rattle.pdc_history.proofs.Keeping.{fits_foreign}
use Rattle.pdc_history.proofs.sent.Sent.push_reserved.Goals as goal

pub keep-requires-clause-fits : goal.keep-requires-clause-fits
keep-requires-clause-fits c = fits_foreign c.args.self.now.settings c.args.self.now.frames c.args.bytes.now 65536 c.requires.of_none
