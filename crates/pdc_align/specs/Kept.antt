-- What an alignment keeps beside its columns, so that most ticks look at none.
use Rattle.std.specs.Prelude.{◌≡◌, ℕ, false, List, map, Option}
use Rattle.std.specs.List.{list_any}
use Rattle.pdc_arrival.specs.pdc_cfg.declared.shape.Shape.{Shape}
use Rattle.pdc_align.specs.State.{shape_in}
use Rattle.pdc_align.specs.Align.{ColumnState}
use Rattle.pdc_align.specs.Calls.{cleared_from, is_ready_in}

-- the shape in force of each column
abbrev pub shapes_in : List ColumnState → List (Option Shape)
shapes_in columns = map (λ (column : ColumnState). shape_in column.in_force) columns

-- A tick with these counts leaves each column as it is: it is cleared that far, and not ready.
pub record AreQuietAt (counts : List ℕ) (columns : List ColumnState) : Type 0 where
  pub cleared : cleared_from 0 counts columns ≡ columns
  pub none_ready : list_any is_ready_in columns ≡ false
