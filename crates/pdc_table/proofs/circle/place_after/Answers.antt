use Rattle.std.proofs.Common.{arith, ◌-◌}
use Rattle.pdc_table.proofs.Remainders.{above}
use Rattle.pdc_table.proofs.circle.place_after.Goals as goal

pub returns-then-after-left-clause-value : goal.returns-then-after-left-clause-value
returns-then-after-left-clause-value c =
    above c.args.window c.args.place (c.args.instant - c.args.after) c.args.instant c.args.after (omega (arith, c.requires.after)) c.requires.place (omega (arith, c.if-after-left.true))
