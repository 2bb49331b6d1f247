use Rattle.pdc_watch.proofs.watch.compare_with.Goals as goal

pub returns-in-Some-clause-equal : goal.returns-in-Some-clause-equal
returns-in-Some-clause-equal c = (c.in-Some.other, c.in-Some.ensures.some.0, c.in-Some.ensures.some.1, c.agrees.ensures)
