use Rattle.pdc_arrival.proofs.from_node.read_from_node.Goals as goal

pub returns : goal.returns
returns c = c.arrival_from_node.ensures c.args.bytes.now c.hear_from_node.ensures.heard
