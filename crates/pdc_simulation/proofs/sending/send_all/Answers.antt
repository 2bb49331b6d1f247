use Rattle.pdc_simulation.specs.Sent.{run_of}
use Rattle.pdc_simulation.proofs.Taking.{for_err, for_ok, taken_all, taken_front, taken_nothing}
use Rattle.pdc_simulation.proofs.sending.send_all.Goals as goal

pub returns-in-Ok-clause-ok : goal.returns-in-Ok-clause-ok
returns-in-Ok-clause-ok g c = for_ok c.send_frames.result (λ taken. taken_all (run_of c.args.run.now.simulated.now c.args.run.now.first) c.args.config.now c.in-Ok.ensures.ok taken) c.send_frames.ensures.ok

pub returns-in-Ok-clause-cut : goal.returns-in-Ok-clause-cut
returns-in-Ok-clause-cut g c = for_err c.send_frames.result (λ taken. taken_front (run_of c.args.run.now.simulated.now c.args.run.now.first) c.args.config.now c.in-Ok.ensures.ok taken) c.send_frames.ensures.cut

pub returns-in-Err-clause-cut : goal.returns-in-Err-clause-cut
returns-in-Err-clause-cut g c = taken_nothing (run_of c.args.run.now.simulated.now c.args.run.now.first) c.args.config.now c.in-Err.ensures.none
