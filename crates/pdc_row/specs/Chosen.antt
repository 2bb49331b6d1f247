-- The block that is chosen among those that were taken.
use Rattle.std.specs.Prelude.{Option, Some, None, if◌then◌else◌}
use Rattle.pdc_block.specs.pdc_cfg.declared.shape.Shape.{Shape}
use Rattle.pdc_row.specs.CellView.{BlockView, CellView, absent_view, is_present}

-- the cell, where its block is present
abbrev pub present_of : Option CellView → Option CellView
present_of None = None
present_of (Some cell) = if is_present cell.block then Some cell else None

abbrev pub first_of : Option CellView → Option CellView → Option CellView
first_of None other = other
first_of (Some cell) other = Some cell

-- the block of the chosen cell, else the absent one
abbrev pub block_or_absent : Shape → Option CellView → BlockView
block_or_absent shape None = absent_view shape
block_or_absent shape (Some cell) = cell.block
