use Rattle.std.proofs.Common.{inl, rules, arith, ◌≡◌, ◌∷◌, ◌++◌, ap, length, refl, subst, sym, [], IfSome}
use Rattle.std.specs.Vec.Iter.{into_iter_items}
use Rattle.pdc_hub.specs.Faults.{IsOfReceiver}
use Rattle.pdc_threads.specs.Ended.{HasEndedAs, ending_by}
use Rattle.pdc_threads.specs.declared.receivers.Counted.{Counted}
use Rattle.pdc_threads.proofs.Endings.{ended_seen, is_either, joined_on, length_pushed, sum_pushed}
use Rattle.pdc_threads.proofs.receivers.join_all.Goals as goal

pub loop-handle-init : goal.loop-handle-init
loop-handle-init g c = (
  search rules,
  search rules,
  search rules,
  search rules,
  search rules,
  record { endings = []; are_kept = tt; left = sym c.into_iter-handle-iterator.ensures.into_iter_gives.0; first = refl; entries = λ _. c.new-receivers.ensures.items; all_configured = λ h. (c.requires.amounts h).2 },
)

pub loop-handle-preserved-then-is_err : goal.loop-handle-preserved-then-is_err
loop-handle-preserved-then-is_err g c =
    let steps = c.in-Some.ensures.steps in (
      λ h. inl ∣ (1, search (rules, c.append.ensures.refused)) ∣₁,
      search rules,
      subst (λ f. IfSome f IsOfReceiver) (sym c.first_of-fault.ensures) (is_either c.loop-handle.fault c.join-more.result.fault c.loop-handle.invariant.2 c.join-more.ensures.1),
      search rules,
      omega (arith, ap length steps.0, steps.1, c.loop-handle.invariant.4),
      joined_on
          (λ handle place ending. HasEndedAs g.C.Core.rules g.N.Naming.given g.S.Source.told c.loop-handle.shares.front handle.promise.source.value handle.promise.stream ending)
          (λ handle place ending. HasEndedAs g.C.Core.rules g.N.Naming.given g.S.Source.told c.merge.new.all.front handle.promise.source.value handle.promise.stream ending)
          c.args.started.running.items c.in-Some.handle (into_iter_items c.loop-handle.handle-iterator) (into_iter_items c.next.new.self) c.loop-handle.receivers.items c.append.new.items.items c.loop-handle.shares.configured.amount c.merge.new.all.configured.amount
          c.loop-handle.fault c.first_of-fault.result c.loop-handle.complete _ (ending_by c.join-more.result.taken c.join-more.result.refused c.join-more.result.shares.configured.amount c.join-more.result.fault)
          (λ handle n e k. ended_seen g.C.Core.rules g.N.Naming.given g.S.Source.told c.loop-handle.shares.front c.merge.new.all.front handle.promise.source.value handle.promise.stream e c.merge.ensures.seen.0 k)
          steps.0 c.first_of-fault.ensures c.loop-handle.invariant.5
          (λ n. ended_seen g.C.Core.rules g.N.Naming.given g.S.Source.told c.join-more.result.shares.front c.merge.new.all.front c.in-Some.handle.promise.source.value c.in-Some.handle.promise.stream _ c.merge.ensures.seen.1 c.join-more.ensures)
          (search rules) c.merge.ensures.amounts.2,
    )

pub loop-handle-preserved : goal.loop-handle-preserved
loop-handle-preserved g c =
    let steps = c.in-Some.ensures.steps in
    let counted : Counted = record { taken = c.join-more.result.taken; refused = c.join-more.result.refused } in
    let items : c.append.new.items.items ≡ c.loop-handle.receivers.items ++ counted ∷ [] = search rules in (
      c.loop-handle.invariant.0,
      λ h.
          let i = c.loop-handle.invariant.1 h in (
            omega (arith, c.merge.ensures.parts.0, c.join-more.result.one_part.0, i.0, steps.1),
            omega (arith, c.merge.ensures.parts.1, c.join-more.result.one_part.1, i.1, steps.1),
            omega (arith, c.merge.ensures.parts.2, c.join-more.result.one_part.2, i.2, steps.1),
            omega (arith, c.merge.ensures.amounts.0, c.join-more.result.same.0, i.3, sum_pushed (λ r. r.taken) c.loop-handle.receivers.items c.append.new.items.items counted items),
            omega (arith, c.merge.ensures.amounts.1, c.join-more.result.same.1, i.4, sum_pushed (λ r. r.refused) c.loop-handle.receivers.items c.append.new.items.items counted items),
            omega (arith, length_pushed c.loop-handle.receivers.items c.append.new.items.items counted items, i.5, steps.1),
          ),
      subst (λ f. IfSome f IsOfReceiver) (sym c.first_of-fault.ensures) (is_either c.loop-handle.fault c.join-more.result.fault c.loop-handle.invariant.2 c.join-more.ensures.1),
      search rules,
      omega (arith, ap length steps.0, steps.1, c.loop-handle.invariant.4),
      joined_on
          (λ handle place ending. HasEndedAs g.C.Core.rules g.N.Naming.given g.S.Source.told c.loop-handle.shares.front handle.promise.source.value handle.promise.stream ending)
          (λ handle place ending. HasEndedAs g.C.Core.rules g.N.Naming.given g.S.Source.told c.merge.new.all.front handle.promise.source.value handle.promise.stream ending)
          c.args.started.running.items c.in-Some.handle (into_iter_items c.loop-handle.handle-iterator) (into_iter_items c.next.new.self) c.loop-handle.receivers.items c.append.new.items.items c.loop-handle.shares.configured.amount c.merge.new.all.configured.amount
          c.loop-handle.fault c.first_of-fault.result c.loop-handle.complete c.loop-handle.complete (ending_by c.join-more.result.taken c.join-more.result.refused c.join-more.result.shares.configured.amount c.join-more.result.fault)
          (λ handle n e k. ended_seen g.C.Core.rules g.N.Naming.given g.S.Source.told c.loop-handle.shares.front c.merge.new.all.front handle.promise.source.value handle.promise.stream e c.merge.ensures.seen.0 k)
          steps.0 c.first_of-fault.ensures c.loop-handle.invariant.5
          (λ n. ended_seen g.C.Core.rules g.N.Naming.given g.S.Source.told c.join-more.result.shares.front c.merge.new.all.front c.in-Some.handle.promise.source.value c.in-Some.handle.promise.stream _ c.merge.ensures.seen.1 c.join-more.ensures)
          (λ t. (t, items)) c.merge.ensures.amounts.2,
    )
