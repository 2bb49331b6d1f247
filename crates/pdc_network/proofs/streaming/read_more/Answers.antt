use Rattle.pdc_session.specs.Counting.{inner_of}
use Rattle.pdc_network.proofs.Running.{run_keeps, run_reads}
use Rattle.pdc_network.proofs.streaming.read_more.Goals as goal

pub returns-then-count-eq0-clause-runs : goal.returns-then-count-eq0-clause-runs
returns-then-count-eq0-clause-runs g c = λ id made held frames has.
    run_reads g.S.Read.remaining g.S.Write.contents id made (inner_of c.args.stream.now) (inner_of c.fill.new.reader) held c.args.unread.now c.fill.new.self frames c.requires c.in-Ok.ensures.bytes has

pub returns-then-not-is_idle-clause-runs : goal.returns-then-not-is_idle-clause-runs
returns-then-not-is_idle-clause-runs g c = λ id made held frames has.
    run_keeps g.S.Read.remaining g.S.Write.contents id made (inner_of c.args.stream.now) (inner_of c.fill.new.reader) held c.args.unread.now c.fill.new.self frames c.requires c.in-Err.ensures.err has

pub returns-else-count-eq0-clause-runs : goal.returns-else-count-eq0-clause-runs
returns-else-count-eq0-clause-runs g c = λ id made held frames has.
    run_reads g.S.Read.remaining g.S.Write.contents id made (inner_of c.args.stream.now) (inner_of c.fill.new.reader) held c.args.unread.now c.fill.new.self frames c.requires c.in-Ok.ensures.bytes has

pub returns-else-not-is_idle-clause-runs : goal.returns-else-not-is_idle-clause-runs
returns-else-not-is_idle-clause-runs g c = λ id made held frames has.
    run_keeps g.S.Read.remaining g.S.Write.contents id made (inner_of c.args.stream.now) (inner_of c.fill.new.reader) held c.args.unread.now c.fill.new.self frames c.requires c.in-Err.ensures.err has
