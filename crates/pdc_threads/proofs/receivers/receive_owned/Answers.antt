use Rattle.pdc_threads.proofs.Endings.{ended_as}
use Rattle.pdc_threads.proofs.receivers.receive_owned.Goals as goal

pub returns : goal.returns
returns g c = ended_as g.C.Core.rules g.N.Naming.given g.S.Source.told c.receive-shares.result.shares.front c.args.source c.receive-shares.new.source c.args.place.stream _ _ _ _ c.receive-shares.ensures.received c.receive-shares.ensures.causes
