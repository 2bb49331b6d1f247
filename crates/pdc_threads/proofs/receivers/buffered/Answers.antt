use Rattle.std.proofs.Common.{rules, arith, ◌≡◌, ◌++◌, ◌∙◌, [], ap, append-nil, length, map, sym}
use Rattle.std.specs.Vec.Iter.{into_iter_items}
use Rattle.pdc_threads.proofs.Endings.{map_on, nothing_left}
use Rattle.pdc_threads.proofs.receivers.buffered.Goals as goal

pub loop-source-preserved : goal.loop-source-preserved
loop-source-preserved g c =
    let steps = c.in-Some.ensures.steps in (
      search rules,
      map_on (λ i. i.source) c.loop-source.inputs.items c.append.new.items.items record { source = c.in-Some.source; buffer = c.in-Ok.buffer } (into_iter_items c.loop-source.source-iterator) (into_iter_items c.next.new.self) c.args.sources.items
          (search rules) steps.0 c.loop-source.invariant.1,
      omega (arith, ap length steps.0, steps.1, c.loop-source.invariant.2),
    )

pub returns-clause-same : goal.returns-clause-same
returns-clause-same g c =
    let none : into_iter_items c.loop-source.source-iterator ≡ [] = nothing_left _ (sym c.loop-source.invariant.2 ∙ c.in-None.ensures.steps.0) in
    sym (append-nil (map (λ i. i.source) c.loop-source.inputs.items)) ∙ (ap (λ l. map (λ i. i.source) c.loop-source.inputs.items ++ l) (sym none) ∙ c.loop-source.invariant.1)
