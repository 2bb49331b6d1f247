use Rattle.std.proofs.Common.{◌∷◌, subst, sym}
use Rattle.pdc_life.specs.Answer.{ToArrive, answered}
use Rattle.pdc_life.specs.Arrival.{Arrival}
use Rattle.pdc_life.specs.CoreKind.{OfNode, Says}
use Rattle.pdc_life.specs.Node.{node_answer}
use Rattle.pdc_node.specs.Node.{StandsFor}
use Rattle.pdc_node.proofs.node.Node.arrive_read.Goals as goal

pub returns-clause-stands : goal.returns-clause-stands
returns-clause-stands g c life E bytes said before =
    subst (λ (a : Arrival). StandsFor life (answered node_answer life E (ToArrive c.args.stream bytes a) ∷ E) c.arrive.new.self) c.arrival_from_pmu-arrival.ensures
    (c.arrive.ensures.stands life E bytes (subst (λ (a : Arrival). Says (OfNode c.args.self.now.settings) c.args.stream bytes a) (sym c.arrival_from_pmu-arrival.ensures) said) before)
