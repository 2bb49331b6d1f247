use Rattle.std.proofs.Common.{subst}
use Rattle.pdc_life.specs.declared.merging.MergedNode.{MergedNode}
use Rattle.pdc_arrival.specs.Heard.{HearsFrom}
use Rattle.pdc_arrival.proofs.Listed.{data_said}
use Rattle.pdc_arrival.proofs.from_node.hear_from_node.Goals as goal

pub returns-clause-data : goal.returns-clause-data
returns-clause-data c =
    data_said c.args.settings.now c.args.stream c.args.bytes.now c.hear.result c.requires
    (subst (λ (n : MergedNode). HearsFrom c.args.settings.now n c.args.bytes.now c.hear.result) c.node_of.ensures c.hear.ensures)
