use Rattle.std.proofs.Common.{arith}
use Rattle.pdc_simulation.specs.Sent.{is_due, run_of}
use Rattle.pdc_simulation.proofs.Taking.{cut_before, cut_between, taken_more, takes_still, where_due}
use Rattle.pdc_simulation.proofs.sending.send_frames.Goals as goal

pub loop-number-preserved : goal.loop-number-preserved
loop-number-preserved g c =
    let run = run_of c.args.run.now.simulated.now c.args.run.now.first in
    let again = where_due c.is_config_due-is_due.result (is_due run.every run.rate c.loop-number.number) c.args.config.now c.is_config_due-is_due.ensures c.in_default-repeat_config.ensures.ok in
    let sent = c.in-Ok.ensures.ok in
    record {
      stands = c.in-Ok.ensures.stands;
      taken = taken_more run c.loop-number.number c.args.config.now sent.0 c.loop-number.invariant.taken again sent.1 (sent.2 c.args.config.now);
      more = omega (arith, c.loop-number.invariant.more, c.in_default-repeat_config.ensures.more, c.in-Ok.ensures.more);
    }

pub returns-in-Err-clause-cut : goal.returns-in-Err-clause-cut
returns-in-Err-clause-cut g c = cut_before (run_of c.args.run.now.simulated.now c.args.run.now.first) c.loop-number.number c.args.config.now (omega arith) c.loop-number.invariant.taken (takes_still g.K.Sink.took c.loop-number.sink)

pub returns-in-Err-repeat_config-clause-cut : goal.returns-in-Err-repeat_config-clause-cut
returns-in-Err-repeat_config-clause-cut g c = cut_before (run_of c.args.run.now.simulated.now c.args.run.now.first) c.loop-number.number c.args.config.now (omega arith) c.loop-number.invariant.taken c.in-Err-repeat_config.ensures.none

pub returns-in-Err-send_number-clause-cut : goal.returns-in-Err-send_number-clause-cut
returns-in-Err-send_number-clause-cut g c =
    let run = run_of c.args.run.now.simulated.now c.args.run.now.first in
    let again = where_due c.is_config_due-is_due.result (is_due run.every run.rate c.loop-number.number) c.args.config.now c.is_config_due-is_due.ensures c.in_default-repeat_config.ensures.ok in
    cut_between run c.loop-number.number c.args.config.now (omega arith) c.loop-number.invariant.taken again c.in-Err-send_number.ensures.none
