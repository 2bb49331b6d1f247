use Rattle.std.proofs.Common.{rules}
use Rattle.pdc_record.proofs.Sayings.{ticked_other, ticked_sized}
use Rattle.pdc_record.proofs.bodies.read_ticked.Goals as goal

pub returns-then-body-ne-TICKED_LEN : goal.returns-then-body-ne-TICKED_LEN
returns-then-body-ne-TICKED_LEN c = ticked_sized c.args.body.now c.if-body-ne-TICKED_LEN.true

pub returns-in-None : goal.returns-in-None
returns-in-None c = ticked_other c.args.body.now c.split_wide-now.result.1.now c.split_counts.result.1.now c.split_long-closed.result.1.now c.split_byte-flags.result.1.now c.split_long-change.result.1.now
    c.split_wide-now.result.0 c.split_long-closed.result.0 c.split_byte-flags.result.0 c.split_long-change.result.0 c.split_counts.result.0
    (search rules) (search rules) (search rules) c.split_counts.ensures.fits c.in-None.ensures
    c.split_wide-now.ensures.joined c.split_counts.ensures.joined c.split_long-closed.ensures.joined c.split_byte-flags.ensures.joined c.split_long-change.ensures.joined
