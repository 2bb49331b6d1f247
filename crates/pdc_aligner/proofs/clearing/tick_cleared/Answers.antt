use Rattle.std.proofs.Common.{ap}
use Rattle.pdc_life.specs.Answer.{ToTick}
use Rattle.pdc_publisher.specs.Publisher.{mark_in}
use Rattle.pdc_aligner.proofs.Laying.{cleared_by, ticked_from}
use Rattle.pdc_aligner.proofs.clearing.tick_cleared.Goals as goal

pub returns-in-Ok-clause-stored : goal.returns-in-Ok-clause-stored
returns-in-Ok-clause-stored g c =
    ticked_from g.C.Core.rules g.N.Naming.given c.args.pops.now.front c.waiting-waiting.new.pops.front c.tick.new.pops.front c.args.now (g.M.Mark.stored c.mark.result.now).counts (g.M.Mark.stored (mark_in c.clear_counts.new.publisher)).counts c.tick.result
    c.waiting-waiting.ensures.looked.2 (ap (λ m. (g.M.Mark.stored m).counts) c.mark.ensures) c.tick.ensures.turned

pub returns-in-Ok-clause-cleared : goal.returns-in-Ok-clause-cleared
returns-in-Ok-clause-cleared g c =
    cleared_by g.C.Core.rules g.N.Naming.given (ToTick c.args.now (g.M.Mark.stored c.mark.result.now).counts) c.args.pops.now.front c.waiting-waiting.new.pops.front c.tick.new.pops.front c.waiting-waiting.result (g.M.Mark.stored (mark_in c.clear_counts.new.publisher)).counts c.tick.result.step _
    c.waiting-waiting.ensures.looked.2 c.waiting-waiting.ensures.waits c.in-Ok.ensures.cleared c.tick.ensures.turned
