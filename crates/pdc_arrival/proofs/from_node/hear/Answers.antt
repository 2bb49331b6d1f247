use Rattle.pdc_arrival.proofs.from_node.hear.Goals as goal

pub returns-in-DataFrame : goal.returns-in-DataFrame
returns-in-DataFrame c = c.hear_data.ensures c.args.bytes.now (record { frame = c.in-Ok.ensures.found; id = c.if-frame-node.false }) c.in-DataFrame.is

pub returns-in-Cfg2 : goal.returns-in-Cfg2
returns-in-Cfg2 c = (record { frame = c.in-Ok.ensures.found; id = c.if-frame-node.false }, c.in-Cfg2.is)
