use Rattle.pdc_session.specs.Counting.{inner_of}
use Rattle.pdc_network.specs.Streamed.{WasWritten}
use Rattle.pdc_network.proofs.Running.{run_fails, run_tells}
use Rattle.pdc_network.proofs.streaming.order.Goals as goal

written : {T : Type 0} (before now : T) → WasWritten before now
unfolding WasWritten
written before now = tt

pub returns-in-Ok : goal.returns-in-Ok
returns-in-Ok g c = record {
  runs = λ made held unread frames has.
      run_tells g.S.Read.remaining g.S.Write.contents c.args.id.value made (inner_of c.args.stream.now) (inner_of c.tell.new.writer) held unread frames c.args.command
      (written (inner_of c.args.stream.now) (inner_of c.tell.new.writer)) c.in-Ok.ensures.ok has;
}

pub returns-in-Err : goal.returns-in-Err
returns-in-Err g c = record {
  runs = λ made held unread frames has.
      run_fails g.S.Read.remaining g.S.Write.contents c.args.id.value made (inner_of c.args.stream.now) (inner_of c.tell.new.writer) held unread frames c.args.command
      (written (inner_of c.args.stream.now) (inner_of c.tell.new.writer)) has;
}
