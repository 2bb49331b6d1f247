use Rattle.pdc_hub.proofs.hub.Hub.tick.Goals as goal

pub returns-clause-turned : goal.returns-clause-turned
returns-clause-turned g c = rw (← c.counts-counts.ensures.value) c.tick.ensures.turned
