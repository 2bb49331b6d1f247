use Rattle.std.proofs.Common.{[], arith, ◌++◌, ◌∷◌}
use Rattle.std.proofs.lemmas.List.{length_push}
use Rattle.pdc_journal.proofs.Taken.{kept, lost}
use Rattle.pdc_journal.proofs.counting_sink.CountingSinkSink.send.Goals as goal

pub returns-in-Ok-clause-ok : goal.returns-in-Ok-clause-ok
returns-in-Ok-clause-ok g c before given t =
    let x = c.args.bytes.now in (t.0 ++ x ∷ [], c.in-Ok.ensures.ok before.inner t.0 t.1, kept t.0 given x t.2, λ below. omega (arith, t.3 below, length_push t.0 x, length_push given x))

pub returns-in-Err-clause-ok : goal.returns-in-Err-clause-ok
returns-in-Err-clause-ok g c before given t =
    let x = c.args.bytes.now in
    let more = c.saturating_add-self.ensures in (t.0, c.in-Err.ensures.err before.inner t.0 t.1, lost t.0 given x t.2, λ below. omega (arith, more, below, t.3 (omega (arith, more, below)), length_push given x))
