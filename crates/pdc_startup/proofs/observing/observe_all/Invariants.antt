use Rattle.std.proofs.Common.{◌≡◌, ◌+◌, ◌++◌, length, map}
use Rattle.std.specs.Vec.Iter.{into_iter_items, into_iter_len}
use Rattle.pdc_startup.specs.Watching.{source_in}
use Rattle.pdc_startup.proofs.observing.observe_all.Given as goal

abbrev pub invariant-loop-source : goal.invariant-loop-source
invariant-loop-source g l =
    (length l.watched.items + into_iter_len l.source-iterator ≡ length l.fn.sources.items)
    × (map source_in l.watched.items ++ into_iter_items l.source-iterator ≡ l.fn.sources.items)
    × (into_iter_len l.source-iterator ≡ length (into_iter_items l.source-iterator))
