use Rattle.std.proofs.Common.{◌≡◌, map, take}
use Rattle.pdc_align.specs.State.{shape_in}
use Rattle.pdc_align.specs.Align.{ColumnState}
use Rattle.pdc_align.proofs.columns.shapes.Given as goal

-- the shapes of the columns so far
abbrev pub invariant-loop-column : goal.invariant-loop-column
invariant-loop-column l = l.shapes.items ≡ map (λ (column : ColumnState). shape_in column.in_force) (take l.column-index l.columns)
