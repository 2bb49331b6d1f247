use Rattle.pdc_aligner.proofs.publishing.put_row.Goals as goal

pub returns-clause-frame : goal.returns-clause-frame
returns-clause-frame g c = record { frame = c.show.new.self; said = c.show.ensures.same.0; itself = c.show.ensures.same.1; behind = c.put.ensures.put c.if-not-put.false }
