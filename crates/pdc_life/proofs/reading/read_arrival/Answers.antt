use Rattle.pdc_life.proofs.reading.read_arrival.Goals as goal

pub returns-in-DataFrame : goal.returns-in-DataFrame
returns-in-DataFrame c p = c.read_data.ensures p c.args.bytes.now (record { frame = c.in-Ok.ensures.found; id = c.if-frame-pmu.false }) c.in-DataFrame.is

pub returns-in-Err-read_configuration : goal.returns-in-Err-read_configuration
returns-in-Err-read_configuration c p =
    c.in-Err-read_configuration.ensures.refused c.args.bytes.now (record { frame = c.in-Ok.ensures.found; id = c.if-frame-pmu.false }) c.in-Cfg2.is
