use Rattle.std.proofs.Common.{[], arith, refl}
use Rattle.pdc_service.proofs.running_concentrator.not_run.Goals as goal

pub returns-clause-sent : goal.returns-clause-sent
returns-clause-sent g c = record { put = []; given = []; rest = []; took = g.K.Sink.nothing c.args.sink; first = refl; rising = omega (arith, c.requires.floor); whole = tt; published = tt }
