use Rattle.std.proofs.Common.{◌++◌, ◌∷◌, [], List, subst, ℕ}
use Rattle.pdc_server.proofs.Pushes.{where_err, where_ok}
use Rattle.pdc_server.proofs.remembering_sink.RememberingSinkOutlet.send_layout.Goals as goal

pub returns-clause-ok : goal.returns-clause-ok
returns-clause-ok g c =
    where_ok c.send-sent.result (λ took before given t.
    subst (λ (bytes : List ℕ). g.K.Sink.took before.inner c.send-sent.new.self (given ++ bytes ∷ [])) c.as_slice.ensures.value (took before.inner given t)) c.send-sent.ensures.ok

pub returns-clause-err : goal.returns-clause-err
returns-clause-err g c = where_err c.send-sent.result (λ took before given t. took before.inner given t) c.send-sent.ensures.err
