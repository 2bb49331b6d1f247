use Rattle.pdc_simulation.specs.Sent.{run_of}
use Rattle.pdc_simulation.proofs.Taking.{for_both, for_ok, simulated, stopped}
use Rattle.pdc_simulation.proofs.sending.simulate_from.Goals as goal

pub returns-in-Ok-clause-ok : goal.returns-in-Ok-clause-ok
returns-in-Ok-clause-ok g c = for_ok c.send_all.result
    (λ taken. simulated (run_of c.args.simulated.now c.args.first) c.in-Ok.config.items c.deref.result.now (g.K.Sink.nothing c.args.sink.now) c.in-Ok.ensures.ok.configured c.deref.ensures.value taken)
    c.send_all.ensures.ok

pub returns-in-Ok-clause-err : goal.returns-in-Ok-clause-err
returns-in-Ok-clause-err g c = for_both c.send_all.result
    (λ fault taken cause. stopped g.K.Sink.took g.K.Sink.failures_of c.args.sink.now c.send_all.new.sink (run_of c.args.simulated.now c.args.first) c.in-Ok.config.items c.deref.result.now fault
    (g.K.Sink.nothing c.args.sink.now) c.in-Ok.ensures.ok.configured c.deref.ensures.value taken cause)
    c.send_all.ensures.cut c.send_all.ensures.err
