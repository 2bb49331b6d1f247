-- What is known of the bytes of a frame before they are put: that they are those of the blocks that the columns hold already.
use Rattle.std.specs.Prelude.{◌≡◌, ℕ, Bool, if◌then◌else◌, List, [], ◌∷◌, Option, None, Some}
use Rattle.pdc_row.specs.CellView.{BlockView, CellView}
use Rattle.pdc_row.specs.KeptBlocks.{blocks_in, shapes_of}
use Rattle.pdc_columns.specs.Views.{ColumnView}

-- blocks behind that of a cell, where there is one
abbrev pub with_block : Option CellView → List BlockView → List BlockView
with_block None blocks = blocks
with_block (Some cell) blocks = cell.block ∷ blocks

-- the blocks that lane 0 holds, in the order of the columns
abbrev pub firsts : List ColumnView → List BlockView
firsts [] = []
firsts (column ∷ columns) = with_block column.first (firsts columns)

-- the blocks that lane 1 holds, in the order of the columns
abbrev pub seconds : List ColumnView → List BlockView
seconds [] = []
seconds (column ∷ columns) = with_block column.second (seconds columns)

-- the first of two lists, unless it is empty
abbrev pub or_others : (blocks others : List BlockView) → List BlockView
or_others [] others = others
or_others (b ∷ blocks) others = b ∷ blocks

-- the blocks that the lowest lane holds which holds any
abbrev pub lowest : List ColumnView → List BlockView
lowest columns = or_others (firsts columns) (seconds columns)

-- the bytes, where it is known
abbrev pub twin_of : (is_twin : Bool) → List ℕ → Option (List ℕ)
twin_of is_twin bytes = if is_twin then Some bytes else None

-- What is known: the bytes are those of the blocks that the lowest lane holds which holds any.
abbrev pub IsTwin : Option (List ℕ) → List ColumnView → Type 0
IsTwin None columns = Unit {0}
IsTwin (Some bytes) columns = blocks_in (shapes_of (lowest columns)) bytes ≡ lowest columns
