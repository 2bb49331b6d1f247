use Rattle.std.proofs.Common.{rules, arith, ◌≡◌, ◌++◌, ◌∷◌, ◌∙◌, [], ap, append-nil, length, map, sym}
use Rattle.std.specs.Vec.Iter.{into_iter_items}
use Rattle.pdc_startup.specs.Watching.{source_in}
use Rattle.pdc_startup.proofs.InOrder.{map_on, nothing_left}
use Rattle.pdc_startup.proofs.observing.observe_all.Goals as goal

pub loop-source-preserved : goal.loop-source-preserved
loop-source-preserved g c =
    let steps = c.in-Some.ensures.steps in
    let rest = into_iter_items c.next.new.self in (
      search rules,
      map_on source_in c.loop-source.watched.items c.push.new.self.items c.in-Some-observe.source (into_iter_items c.loop-source.source-iterator) rest c.args.sources.items
          (search rules) (steps.0 ∙ ap (λ s. s ∷ rest) (sym c.in-Some-observe.ensures)) c.loop-source.invariant.1,
      omega (arith, ap length steps.0, steps.1, c.loop-source.invariant.2),
    )

pub returns-clause-same : goal.returns-clause-same
returns-clause-same g c =
    let none : into_iter_items c.loop-source.source-iterator ≡ [] = nothing_left _ (sym c.loop-source.invariant.2 ∙ c.in-None.ensures.steps.0) in
    sym (append-nil (map source_in c.loop-source.watched.items)) ∙ (ap (λ l. map source_in c.loop-source.watched.items ++ l) (sym none) ∙ c.loop-source.invariant.1)
