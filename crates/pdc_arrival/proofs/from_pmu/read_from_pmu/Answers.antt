use Rattle.std.proofs.Common.{subst, sym}
use Rattle.pdc_life.specs.Arrival.{Arrival}
use Rattle.pdc_life.specs.CoreKind.{OfNode, Says}
use Rattle.pdc_arrival.proofs.from_pmu.read_from_pmu.Goals as goal

pub returns : goal.returns
returns c = subst (λ (a : Arrival). Says (OfNode c.args.settings.now) c.args.stream c.args.bytes.now a) (sym c.arrival_from_pmu.ensures) c.hear_from_pmu.ensures
