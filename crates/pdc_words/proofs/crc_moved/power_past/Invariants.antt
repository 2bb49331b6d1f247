use Rattle.std.proofs.Common.{◌-◌, ◌*◌, ◌^◌, ◌≤◌}
use Rattle.pdc_words.specs.CheckWord.{IsCongruent}
use Rattle.pdc_words.proofs.crc_moved.power_past.Given as goal

abbrev pub invariant-loop-left : goal.invariant-loop-left
invariant-loop-left l = (l.left ≤ l.count) × IsCongruent (l.state * 2 ^ 32) (2 ^ (8 * (l.count - l.left)))

abbrev pub decreases-loop-left : goal.decreases-loop-left
decreases-loop-left l = l.left

abbrev pub invariant-loop-left-2 : goal.invariant-loop-left-2
invariant-loop-left-2 l = (l.left ≤ l.count) × IsCongruent (l.state * 2 ^ 32) (2 ^ (8 * (l.count - l.left)))

abbrev pub decreases-loop-left-2 : goal.decreases-loop-left-2
decreases-loop-left-2 l = l.left
