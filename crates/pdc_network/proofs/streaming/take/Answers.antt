use Rattle.pdc_session.specs.Counting.{inner_of}
use Rattle.pdc_network.specs.Came.{frames_in}
use Rattle.pdc_network.proofs.Running.{run_feeds}
use Rattle.pdc_network.proofs.streaming.take.Goals as goal

pub returns-then-branch-clause-runs : goal.returns-then-branch-clause-runs
returns-then-branch-clause-runs g c = λ id made frames has.
    run_feeds g.S.Read.remaining g.S.Write.contents id made (inner_of c.read.new.stream) c.args.framer.now c.cut.new.framer c.read.new.unread c.cut.new.unread frames (frames_in c.cut.result c.cut.new.buffer)
    c.cut.ensures.takes (c.read.ensures.runs id made c.args.framer.now frames has)
