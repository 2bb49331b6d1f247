use Rattle.std.proofs.Common.{◌∙◌, ◌++◌, [], ◌∷◌, ℕ, List, ap, subst}
use Rattle.pdc_simulation.specs.Pmu.{data_of}
use Rattle.pdc_simulation.specs.Sent.{TakesMore}
use Rattle.pdc_simulation.proofs.Taking.{for_ok}
use Rattle.pdc_simulation.proofs.handing.send_data.Goals as goal

pub returns-clause-ok : goal.returns-clause-ok
returns-clause-ok g c = for_ok c.hand.result
    (λ taken. subst (λ (bytes : List ℕ). TakesMore g.K.Sink.took c.args.sink.now c.hand.new.sink (bytes ∷ []))
    (c.deref.ensures.value ∙ c.in_default.ensures.ok ∙ ap (λ (xs : List ℕ). xs ++ data_of c.args.sender.now.pmu c.args.instant c.args.words.now) c.clear.ensures.items) taken)
    c.hand.ensures.ok
