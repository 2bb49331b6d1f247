use Rattle.pdc_play.proofs.script.Script.take.Goals as goal

pub returns-then-byte-eq10-clause-comes : goal.returns-then-byte-eq10-clause-comes
returns-then-byte-eq10-clause-comes g c = rw c.if-byte-eq10.true c.end_line.ensures.comes
