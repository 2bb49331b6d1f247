use Rattle.std.proofs.Common.{refl}
use Rattle.std.proofs.Math.Logic.{∥∥₁_map}
use Rattle.pdc_server.proofs.Turns.{of_each, where_err, where_ok}
use Rattle.pdc_server.proofs.hearing.hear.Goals as goal

pub returns-clause-ok : goal.returns-clause-ok
returns-clause-ok g c = where_ok c.feed.result (λ answered. (_, (refl, refl, ∥∥₁_map c.config_of.ensures (λ l. (c.args.source.now.layout.now, l))), answered)) c.feed.ensures.ok

pub returns-clause-failed : goal.returns-clause-failed
returns-clause-failed g c =
    where_err c.feed.result (λ fault ended. (_, (refl, refl, ∥∥₁_map c.config_of.ensures (λ l. (c.args.source.now.layout.now, l))), ended, c.feed.ensures.stream)) (of_each _ c.feed.result c.feed.ensures.ended)

pub returns-clause-refused : goal.returns-clause-refused
returns-clause-refused g c = λ none lacking. let lacks = (c.feed.ensures.memory none lacking).2 in ∣ (_, lacks.refused) ∣₁
