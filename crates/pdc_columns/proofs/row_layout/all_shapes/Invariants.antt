use Rattle.std.proofs.Common.{◌≡◌, Some, map, take}
use Rattle.pdc_columns.proofs.row_layout.all_shapes.Given as goal

-- each column so far has one
abbrev pub invariant-loop-shape : goal.invariant-loop-shape
invariant-loop-shape l = take l.shape-index l.shapes ≡ map Some l.all
