use Rattle.std.proofs.Common.{◌++◌}
use Rattle.crossbeam_channel.specs.Claims.{view}
use Rattle.pdc_pipe.specs.Sequence.{bytes_of}
use Rattle.pdc_pipe.proofs.Pipes.{drained}
use Rattle.pdc_pipe.proofs.senders.send_out.Goals as goal

pub returns-then-eq-clause-took : goal.returns-then-eq-clause-took
returns-then-eq-clause-took g c =
    let t = c.hand_on-ended.ensures.took in
    let more = c.drain.ensures.more in
    (t.0, t.1 ++ bytes_of more.0, t.2, drained (view c.hand_on-ended.new.pass).taken (view c.drain.new.pass).taken more.0 t.0 t.1 more.1 t.3)
