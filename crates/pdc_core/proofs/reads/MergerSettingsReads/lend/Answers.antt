use Rattle.pdc_core.specs.Lent.{brought_view}
use Rattle.pdc_core.specs.Said.{said_fits_merger}
use Rattle.pdc_core.proofs.Refusing.{if_ok}
use Rattle.pdc_core.proofs.reads.MergerSettingsReads.lend.Goals as goal

pub returns-clause-fits : goal.returns-clause-fits
returns-clause-fits c =
    if_ok c.lend_checked.result (λ lent. said_fits_merger c.args.self.now c.args.stream c.args.bytes.now (brought_view lent c.lend_checked.new.kept)) c.lend_checked.ensures.says
