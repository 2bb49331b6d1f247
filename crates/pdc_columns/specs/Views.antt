-- What the lanes of a column hold at an instant, however a row keeps it.
use Rattle.std.specs.Prelude.{Bool, if◌then◌else◌, Option, None, Some}
use Rattle.pdc_row.specs.CellView.{CellView}

-- what the lanes of a column hold at an instant; with one lane the second holds nothing
pub record ColumnView : Type 0 where
  pub first : Option CellView
  pub second : Option CellView

-- the cell, where there is one
abbrev pub kept : Bool → CellView → Option CellView
kept is_held cell = if is_held then Some cell else None

-- the column in which nothing was taken
abbrev pub empty_column : ColumnView
empty_column = record { first = None; second = None }
