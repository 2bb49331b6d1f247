use Rattle.std.proofs.Common.{inl, rules, arith, ◌≡◌, ◌∷◌, ◌∙◌, true, ap, drop, length, map, subst, sym}
use Rattle.std.specs.Vec.Iter.{into_iter_items}
use Rattle.pdc_threads.specs.Ended.{AreFor, HasEndedAs, ending_by}
use Rattle.pdc_threads.proofs.Endings.{drop_on, for_on}
use Rattle.pdc_threads.proofs.receivers.start_all.Goals as goal

pub spawn_with-requires-clause-keeps : goal.spawn_with-requires-clause-keeps
spawn_with-requires-clause-keeps g c κs within r h =
    subst (λ s. HasEndedAs g.C.Core.rules g.N.Naming.given g.S.Source.told r.shares.front s c.loop-input.stream (ending_by r.taken r.refused r.shares.configured.amount r.fault)) (sym c.of.ensures) h

pub loop-input-preserved : goal.loop-input-preserved
loop-input-preserved g c =
    let steps = c.in-Some.ensures.steps in
    let goes : c.loop-input.complete ≡ true = search rules in
    let before = c.loop-input.invariant.1 goes in
    let sources = map (λ i. i.source) c.args.inputs.items in
    let at : drop (length c.loop-input.running.items) sources ≡ c.in-Some.input.source ∷ map (λ i. i.source) (into_iter_items c.next.new.self) = before.8 ∙ ap (map (λ i. i.source)) steps.0 in (
      λ h. c.loop-input.invariant.0 h,
      λ h. (
        search rules,
        search rules,
        search rules,
        search rules,
        search rules,
        search rules,
        search rules,
        search rules,
        drop_on sources c.loop-input.running.items c.append.new.items.items c.in-Some.input.source _ c.in-Ok.handle (search rules) at,
      ),
      for_on _ 0 sources c.loop-input.running.items c.append.new.items.items c.in-Some.input.source _ c.in-Ok.handle (search rules) c.loop-input.invariant.2 at
          (ap (λ p. p.source.value) c.in-Ok.ensures.ok ∙ c.of.ensures, ap (λ p. p.stream) c.in-Ok.ensures.ok ∙ omega (arith, before.6, before.7)),
    )

pub loop-input-preserved-then-is_err : goal.loop-input-preserved-then-is_err
loop-input-preserved-then-is_err g c =
    let same : c.append.new.items.items ≡ c.loop-input.running.items = search rules in (
      λ h. inl ∣ (1, search (rules, c.append.ensures.refused)) ∣₁,
      search rules,
      subst (λ l. AreFor (λ source stream handle. (handle.promise.source.value ≡ source) × (handle.promise.stream ≡ stream)) 0 (map (λ i. i.source) c.args.inputs.items) l) (sym same) c.loop-input.invariant.2,
    )
