use Rattle.std.proofs.Common.{◌≡◌, ◌+◌, false, true, drop, length, map}
use Rattle.std.specs.Vec.Iter.{into_iter_items, into_iter_len}
use Rattle.pdc_threads.specs.Ended.{AreFor}
use Rattle.pdc_threads.specs.Wanted.{LackedRoom}
use Rattle.pdc_threads.proofs.receivers.start_all.Given as goal

abbrev pub invariant-loop-input : goal.invariant-loop-input
invariant-loop-input g l =
    (l.complete ≡ false → LackedRoom)
    × (l.complete ≡ true
    → (l.shares.taken.amount ≡ 0) × (l.shares.refused.amount ≡ 0) × (l.shares.configured.amount ≡ 0)
    × (l.shares.taken.parts ≡ into_iter_len l.input-iterator + 1) × (l.shares.refused.parts ≡ into_iter_len l.input-iterator + 1) × (l.shares.configured.parts ≡ into_iter_len l.input-iterator + 1)
    × (length l.running.items + into_iter_len l.input-iterator ≡ length l.fn.inputs.items)
    × (l.stream + into_iter_len l.input-iterator ≡ length l.fn.inputs.items)
    × (drop (length l.running.items) (map (λ i. i.source) l.fn.inputs.items) ≡ map (λ i. i.source) (into_iter_items l.input-iterator)))
    × AreFor (λ source stream handle. (handle.promise.source.value ≡ source) × (handle.promise.stream ≡ stream)) 0 (map (λ i. i.source) l.fn.inputs.items) l.running.items
