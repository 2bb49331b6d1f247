use Rattle.std.proofs.Common.{◌≡◌, ◌++◌, drop, map, take}
use Rattle.pdc_table.specs.AgesView.{earlier}
use Rattle.pdc_table.proofs.ages.move_back.Given as goal

abbrev pub invariant-loop-since : goal.invariant-loop-since
invariant-loop-since l = l.counts ≡ map earlier (take l.since-index l.fn.counts) ++ drop l.since-index l.fn.counts
