use Rattle.std.proofs.Common.{◌≡◌, ◌+◌, false, true, sum, map, length, IfSome}
use Rattle.std.specs.Vec.Iter.{into_iter_items, into_iter_len}
use Rattle.pdc_hub.specs.Faults.{IsOfReceiver}
use Rattle.pdc_threads.specs.Ended.{HasEndedAs, HaveJoined}
use Rattle.pdc_threads.specs.Wanted.{LackedRoom}
use Rattle.pdc_threads.proofs.receivers.join_all.Given as goal

abbrev pub invariant-loop-handle : goal.invariant-loop-handle
invariant-loop-handle g l =
    (l.complete ≡ false → LackedRoom)
    × (l.complete ≡ true
    → (l.shares.taken.parts + into_iter_len l.handle-iterator ≡ g.N.Ledgers.taken.parts) × (l.shares.refused.parts + into_iter_len l.handle-iterator ≡ g.N.Ledgers.refused.parts) × (l.shares.configured.parts + into_iter_len l.handle-iterator ≡ g.N.Ledgers.configured.parts)
    × (l.shares.taken.amount ≡ sum (map (λ c. c.taken) l.receivers.items)) × (l.shares.refused.amount ≡ sum (map (λ c. c.refused) l.receivers.items))
    × (length l.receivers.items + into_iter_len l.handle-iterator ≡ length l.fn.started.running.items))
    × IfSome l.fault IsOfReceiver
    × (l.complete ≡ true → l.fn.started.complete ≡ true)
    × (into_iter_len l.handle-iterator ≡ length (into_iter_items l.handle-iterator))
    × HaveJoined (λ handle place ending. HasEndedAs g.C.Core.rules g.N.Naming.given g.S.Source.told l.shares.front handle.promise.source.value handle.promise.stream ending)
    l.fn.started.running.items (into_iter_items l.handle-iterator) l.receivers.items l.shares.configured.amount l.fault l.complete
