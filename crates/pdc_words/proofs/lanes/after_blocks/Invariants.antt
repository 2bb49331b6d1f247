use Rattle.std.proofs.Common.{ℕ, ◌+◌, ◌-◌, ◌*◌, ◌^◌, ◌≤◌, length, map, take, fold}
use Rattle.pdc_words.specs.CheckWord.{IsRemainder, check_after}
use Rattle.pdc_words.specs.Lanes.{state_of_lanes, turned}
use Rattle.pdc_words.proofs.lanes.after_blocks.Given as goal

abbrev pub invariant-loop-at : goal.invariant-loop-at
invariant-loop-at l = (l.at + 128 ≤ length l.bytes)
    × ((check : ℕ) → IsRemainder (l.fn.state * 2 ^ 16) check → IsRemainder (state_of_lanes (map turned l.lanes) * 2 ^ 16) (fold check_after check (take l.at l.bytes)))

abbrev pub decreases-loop-at : goal.decreases-loop-at
decreases-loop-at l = length l.bytes - l.at
