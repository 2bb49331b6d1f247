use Rattle.pdc_core.specs.KeptArrival.{wanted_of}
use Rattle.pdc_core.specs.Lent.{brought_view}
use Rattle.pdc_hub.proofs.Receiving.{of_delivery, was_brought}
use Rattle.pdc_hub.proofs.receiver.hand_in.Goals as goal

pub returns-in-Ok-clause-answer : goal.returns-in-Ok-clause-answer
returns-in-Ok-clause-answer g c =
    was_brought g.C.Core.rules g.N.Naming.given c.args.stream c.args.bytes.now c.args.shares.now.front c.deliver.new.mine.front (brought_view c.in-Ok.lent c.lend.new.kept) c.deliver.result c.deliver.ensures.added

pub returns-in-Ok-clause-causes : goal.returns-in-Ok-clause-causes
returns-in-Ok-clause-causes g c = of_delivery c.deliver.result c.deliver.ensures.causes

pub returns-in-Err-clause-causes : goal.returns-in-Err-clause-causes
returns-in-Err-clause-causes g c = ∣ (wanted_of c.in-Err.ensures.refused.0, c.in-Err.ensures.refused.2) ∣₁
