use Rattle.pdc_life.proofs.Held.{held_is_greatest, node_holds_greatest}
use Rattle.pdc_life.proofs.laws.held_is_greatest.Goals as goal

pub returns-clause-accepted : goal.returns-clause-accepted
returns-clause-accepted c g E n = held_is_greatest g E n

pub returns-clause-of_node : goal.returns-clause-of_node
returns-clause-of_node c settings g E n life = node_holds_greatest settings g E n life
