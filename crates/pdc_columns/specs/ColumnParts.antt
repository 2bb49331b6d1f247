-- What the lists of an open row show together: which lanes hold a cell, and the blocks of each lane.
use Rattle.std.specs.Prelude.{◌≡◌, ℕ, zero, suc, ◌==◌, false, if◌then◌else◌, List, [], ◌∷◌, Option, Some, None}
use Rattle.pdc_row.specs.CellView.{BlockView, CellView, body_view, is_present}
use Rattle.pdc_columns.specs.Chosen.{chosen_of}
use Rattle.pdc_columns.specs.Views.{ColumnView, kept}
use Rattle.pdc_columns.specs.declared.column.Chosen.{Chosen}
use Rattle.pdc_columns.specs.declared.column.Held.{Held}

-- no lane holds a cell
abbrev pub nothing : Held
nothing = record { first = false; second = false; alike = false; first_quality = 0; second_quality = 0 }

-- the lane, 0 or else 1, holds no cell
abbrev pub without_lane : ℕ → Held → Held
without_lane lane held = if lane == 0 then record held { first = false } else record held { second = false }

-- the block of lane 1, of these of the lanes: it may stand in lane 0
abbrev pub block_of_second : Held → (first second : BlockView) → BlockView
block_of_second held first second = if held.alike then first else second

-- what a column gives: a block, and the quality of the lane that gives it
abbrev pub chosen_view : Chosen → CellView
chosen_view chosen = record { block = body_view chosen.body; quality = chosen.quality }

-- what the lanes of a column hold, of these blocks
abbrev pub column_of : Held → (first second : BlockView) → ColumnView
column_of held first second = record {
  first = kept held.first (record { block = first; quality = held.first_quality });
  second = kept held.second (record { block = block_of_second held first second; quality = held.second_quality });
}

-- Whatever blocks stand in the lanes, the column gives the one of lane 0, with this time quality byte, if it is present, and else none.
abbrev pub GivesHere : Held → (quality : ℕ) → Type 0
GivesHere held quality = (first second : BlockView) → chosen_of (column_of held first second) ≡ (if is_present first then Some (record { block = first; quality = quality }) else None)

-- the columns, where each list has one part of every column
abbrev pub columns_of : List Held → (first second : List BlockView) → List ColumnView
columns_of [] first second = []
columns_of (h ∷ held) [] second = []
columns_of (h ∷ held) (f ∷ first) [] = []
columns_of (h ∷ held) (f ∷ first) (s ∷ second) = column_of h f s ∷ columns_of held first second

-- the worst quality so far, kept as the number above it, and none as 0
abbrev pub worst_kept : ℕ → Option ℕ
worst_kept zero = None
worst_kept (suc n) = Some n
