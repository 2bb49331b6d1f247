use Rattle.std.proofs.Common.{◌≡◌, false, take}
use Rattle.pdc_row.proofs.shapes.are_same.Given as goal

-- those that were looked at are the same, where none was found to differ
abbrev pub invariant-loop-place : goal.invariant-loop-place
invariant-loop-place l = l.differ ≡ false → take l.place l.some ≡ take l.place l.others
