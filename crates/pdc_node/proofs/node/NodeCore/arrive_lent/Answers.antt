use Rattle.std.proofs.Common.{◌∷◌, Option, ap, option_map, subst, sym}
use Rattle.pdc_core.specs.KeptArrival.{data_view}
use Rattle.pdc_frame.specs.Claim.{claim_of}
use Rattle.pdc_frame.specs.declared.claim.LentClaim.{LentClaim}
use Rattle.pdc_life.specs.Answer.{ToArrive, answered}
use Rattle.pdc_life.specs.Arrival.{Arrival}
use Rattle.pdc_life.specs.CoreKind.{OfNode, Says}
use Rattle.pdc_life.specs.Node.{node_answer}
use Rattle.pdc_node.specs.Node.{StandsFor}
use Rattle.pdc_node.proofs.node.NodeCore.arrive_lent.Goals as goal

pub returns-in-None-clause-stands : goal.returns-in-None-clause-stands
returns-in-None-clause-stands g c h E bytes =
    subst (λ (a : Arrival). Says (OfNode c.args.self.now.settings) c.args.stream bytes a → StandsFor h E c.args.self.now → StandsFor h (answered node_answer h E (ToArrive c.args.stream bytes a) ∷ E) c.arrive_data.new.self)
    (ap (λ (o : Option LentClaim). data_view c.args.lent.now.instant c.args.lent.now.quality c.args.lent.now.payload.now (option_map claim_of o)) (sym c.in-None.is)) (c.arrive_data.ensures.stands h E bytes)
