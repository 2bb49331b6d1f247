-- The block that a column gives to the row of its instant, and whether its lanes disagree.
use Rattle.std.specs.Prelude.{ℕ, ◌+◌, Bool, not, false, if◌then◌else◌, List, [], ◌∷◌, Option, Some, None}
use Rattle.pdc_row.specs.pdc_cfg.declared.shape.Shape.{Shape}
use Rattle.pdc_row.specs.Chosen.{block_or_absent, first_of, present_of}
use Rattle.pdc_row.specs.CellView.{BlockView, CellView, same_block}
use Rattle.pdc_columns.specs.Views.{ColumnView}

-- The cell of the lowest lane whose block is present.
abbrev pub chosen_of : ColumnView → Option CellView
chosen_of column = first_of (present_of column.first) (present_of column.second)

-- The block of a column of this shape: the chosen one, else the absent one.
abbrev pub block_in : Shape → ColumnView → BlockView
block_in shape column = block_or_absent shape (chosen_of column)

-- both are there, and their blocks differ
abbrev pub are_different : Option CellView → Option CellView → Bool
are_different None other = false
are_different (Some a) None = false
are_different (Some a) (Some b) = not (same_block a.block b.block)

-- Both lanes hold present blocks, and they differ.
abbrev pub disagrees : ColumnView → Bool
disagrees column = are_different (present_of column.first) (present_of column.second)

-- one for a column with a shape whose lanes disagree
abbrev pub disagreement_at : Option Shape → ColumnView → ℕ
disagreement_at None column = 0
disagreement_at (Some shape) column = if disagrees column then 1 else 0

-- how many columns with a shape have lanes that disagree
abbrev pub disagreements_of : List (Option Shape) → List ColumnView → ℕ
disagreements_of [] columns = 0
disagreements_of (shape ∷ shapes) [] = 0
disagreements_of (shape ∷ shapes) (column ∷ columns) = disagreement_at shape column + disagreements_of shapes columns
