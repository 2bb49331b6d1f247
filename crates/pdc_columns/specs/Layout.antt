-- The layout under which rows close.
use Rattle.std.specs.Prelude.{ℕ, List, Option}
use Rattle.pdc_row.specs.pdc_cfg.declared.shape.Shape.{Shape}
use Rattle.pdc_columns.specs.declared.row_layout.RowLayout.{RowLayout}

-- its stamp, and a shape or nothing for each column
pub record LayoutView : Type 0 where
  pub start : ℕ
  pub change : ℕ
  pub shapes : List (Option Shape)

abbrev pub layout_view : RowLayout → LayoutView
layout_view layout = record { start = layout.start; change = layout.change; shapes = layout.shapes.items }
