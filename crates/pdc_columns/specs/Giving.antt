-- The blocks that columns give to a row, and the time qualities of those that are present.
use Rattle.std.specs.Prelude.{ℕ, ◌++◌, List, [], ◌∷◌, Option, Some, None}
use Rattle.std.specs.Option.{option_map, option_to_list}
use Rattle.pdc_row.specs.pdc_cfg.declared.shape.Shape.{Shape}
use Rattle.pdc_row.specs.CellView.{BlockView}
use Rattle.pdc_row.specs.Quality.{time_quality_of}
use Rattle.pdc_columns.specs.Chosen.{chosen_of, block_in}
use Rattle.pdc_columns.specs.Views.{ColumnView, empty_column}

-- the blocks that a column gives: one where it has a shape
abbrev pub blocks_at : Option Shape → ColumnView → List BlockView
blocks_at None column = []
blocks_at (Some shape) column = block_in shape column ∷ []

-- the block of each column with a shape, in column order; a column that is not there is empty
abbrev pub blocks_of : List (Option Shape) → List ColumnView → List BlockView
blocks_of [] columns = []
blocks_of (shape ∷ shapes) [] = blocks_at shape empty_column ++ blocks_of shapes []
blocks_of (shape ∷ shapes) (column ∷ columns) = blocks_at shape column ++ blocks_of shapes columns

-- the quality that a column gives: that of its chosen cell, if there is one
abbrev pub quality_in : ColumnView → Option ℕ
quality_in column = option_map time_quality_of (chosen_of column)

-- the qualities that a column gives: one where it has a shape and its block is present
abbrev pub qualities_at : Option Shape → ColumnView → List ℕ
qualities_at None column = []
qualities_at (Some shape) column = option_to_list (quality_in column)

-- the qualities that the columns with a shape give
abbrev pub qualities_of : List (Option Shape) → List ColumnView → List ℕ
qualities_of [] columns = []
qualities_of (shape ∷ shapes) [] = []
qualities_of (shape ∷ shapes) (column ∷ columns) = qualities_at shape column ++ qualities_of shapes columns
