use Rattle.std.proofs.Common.{ℕ, ◌-◌, ◌*◌, ◌^◌, ◌≤◌, length, take, fold}
use Rattle.pdc_words.specs.CheckWord.{IsRemainder, check_after}
use Rattle.pdc_words.proofs.crc.after_wide_steps.Given as goal

abbrev pub invariant-loop-at : goal.invariant-loop-at
invariant-loop-at l = (l.at ≤ length l.bytes) × ((check : ℕ) → IsRemainder (l.state * 2 ^ 16) (fold check_after check (take l.place l.bytes)) → IsRemainder (l.after * 2 ^ 16) (fold check_after check (take l.at l.bytes)))

abbrev pub decreases-loop-at : goal.decreases-loop-at
decreases-loop-at l = length l.bytes - l.at
