use Rattle.std.proofs.Common.{length, ◌≤◌}
use Rattle.pdc_export.proofs.export.Export.feed.Given as goal

abbrev pub invariant-loop-len : goal.invariant-loop-len
invariant-loop-len g l = length l.rest ≤ length l.piece

-- each line that ends leaves less of the piece
abbrev pub decreases-loop-len : goal.decreases-loop-len
decreases-loop-len g l = length l.rest
