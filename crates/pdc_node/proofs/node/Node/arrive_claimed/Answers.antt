use Rattle.std.proofs.Common.{◌∷◌, subst}
use Rattle.pdc_life.specs.Answer.{ToArrive, answered}
use Rattle.pdc_life.specs.Arrival.{Arrival}
use Rattle.pdc_life.specs.CoreKind.{OfNode, Says}
use Rattle.pdc_life.specs.Node.{node_answer}
use Rattle.pdc_node.specs.Node.{StandsFor}
use Rattle.pdc_node.proofs.node.Node.arrive_claimed.Goals as goal

pub returns-clause-stands : goal.returns-clause-stands
returns-clause-stands g c h E bytes =
    subst (λ (a : Arrival). Says (OfNode c.args.self.now.settings) c.args.stream bytes a → StandsFor h E c.args.self.now → StandsFor h (answered node_answer h E (ToArrive c.args.stream bytes a) ∷ E) c.arrive.new.self)
    c.view-arrival.ensures (c.arrive.ensures.stands h E bytes)
