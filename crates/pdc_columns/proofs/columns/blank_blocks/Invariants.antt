use Rattle.std.proofs.Common.{◌-◌, ◌≤◌, length}
use Rattle.pdc_columns.proofs.columns.blank_blocks.Given as goal

abbrev pub invariant-loop-blocks : goal.invariant-loop-blocks
invariant-loop-blocks l = length l.blocks ≤ l.count

abbrev pub decreases-loop-blocks : goal.decreases-loop-blocks
decreases-loop-blocks l = l.count - length l.blocks
