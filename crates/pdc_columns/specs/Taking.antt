-- What the blocks of a frame make of the columns of a row, and whether they differ from what these hold.
use Rattle.std.specs.Prelude.{ℕ, ◌<◌, ◌==◌, Bool, false, not, if◌then◌else◌, List, [], ◌∷◌, length, map, Option, Some, None, is_some, slice_set, slice_index_or}
use Rattle.std.specs.List.{All, list_any}
use Rattle.pdc_row.specs.pdc_block.declared.block.Block.{Block}
use Rattle.pdc_row.specs.pdc_block.declared.body.Body.{Body}
use Rattle.pdc_row.specs.CellView.{BlockView, CellView, body_view, cell_view, same_block}
use Rattle.pdc_columns.specs.Views.{ColumnView, empty_column}

-- the cells that the blocks of a frame make, each with its column
abbrev pub cells_of : List (ℕ × Block) → (quality : ℕ) → List (ℕ × CellView)
cells_of blocks quality = map (λ (part : ℕ × Block). (part.0, cell_view part.1 quality)) blocks

-- the cells that what is offered makes, wherever its words lie
abbrev pub cells_in : {B : Type 0} → (B → BlockView) → List (ℕ × B) → (quality : ℕ) → List (ℕ × CellView)
cells_in {B = B} view blocks quality = map (λ (part : ℕ × B). (part.0, record { block = view part.1; quality = quality })) blocks

-- the cells that the blocks of a frame make where they are lent from its payload
abbrev pub body_cells_of : List (ℕ × Body) → (quality : ℕ) → List (ℕ × CellView)
body_cells_of bodies quality = cells_in body_view bodies quality

-- there is the column of each of these cells
abbrev pub HaveColumns : List (ℕ × CellView) → List ColumnView → Type 0
HaveColumns cells columns = All (λ (cell : ℕ × CellView). cell.0 < length columns) cells

-- lane 1 of some column holds a cell
abbrev pub any_second : List ColumnView → Bool
any_second columns = list_any (λ (column : ColumnView). is_some column.second) columns

-- what a lane of a column holds
abbrev pub cell_in : ℕ → ColumnView → Option CellView
cell_in lane column = if lane == 0 then column.first else column.second

-- the column with this in its lane
abbrev pub with_cell : ℕ → Option CellView → ColumnView → ColumnView
with_cell lane cell column = if lane == 0 then record column { first = cell } else record column { second = cell }

-- the columns with these cells in their lane, each at its column
abbrev pub with_cells : ℕ → List (ℕ × CellView) → List ColumnView → List ColumnView
with_cells lane [] columns = columns
with_cells lane (c ∷ cs) columns =
    with_cells lane cs (slice_set columns c.0 (with_cell lane (Some c.1) (slice_index_or columns c.0 empty_column)))

-- the cell that is given for a column, if there is one
abbrev pub given_for : ℕ → List (ℕ × CellView) → Option CellView
given_for column [] = None
given_for column (cell ∷ cells) = if cell.0 == column then Some cell.1 else given_for column cells

-- the column with what is given for it in its lane
abbrev pub with_given : ℕ → Option CellView → ColumnView → ColumnView
with_given lane None column = column
with_given lane (Some cell) column = with_cell lane (Some cell) column

-- the lane holds another block; what holds nothing is not compared
abbrev pub holds_other : Option CellView → BlockView → Bool
holds_other None block = false
holds_other (Some cell) block = not (same_block cell.block block)

-- Some block that is given differs from what the lane of its column holds.
abbrev pub conflicts : ℕ → List (ℕ × CellView) → List ColumnView → Bool
conflicts lane cells columns =
    list_any (λ (c : ℕ × CellView). holds_other (cell_in lane (slice_index_or columns c.0 empty_column)) c.1.block) cells
