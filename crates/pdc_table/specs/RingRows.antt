-- Rows that stand at the places of their instants.
use Rattle.std.specs.Prelude.{◌≡◌, ℕ, ◌<◌, ◌+◌, ◌%◌, ◌==◌, List, [], ◌∷◌, length, map, slice_index_or, slice_set, Option, Some, None, if◌then◌else◌}
use Rattle.std.specs.Option.{unwrap_or}
use Rattle.pdc_open_row.specs.pdc_row.RowView.{RowView}
use Rattle.pdc_table.specs.Closing.{counter}
use Rattle.pdc_open_row.specs.pdc_columns.Layout.{LayoutView}
use Rattle.pdc_open_row.specs.Row.{row_of}
use Rattle.pdc_open_row.specs.Views.{OpenRowView, at_age, blank_row}

-- the rows with these ages, one for each, in place of their own
abbrev pub with_ages : List OpenRowView → List ℕ → List OpenRowView
with_ages [] ages = []
with_ages (row ∷ rows) [] = []
with_ages (row ∷ rows) (age ∷ ages) = at_age age row ∷ with_ages rows ages

-- an age after one more tick
abbrev pub older : ℕ → ℕ
older age = counter (age + 1)

-- the row at the place of an instant
abbrev pub row_in : List OpenRowView → (window i : ℕ) → OpenRowView
row_in places window i = slice_index_or places (i % window) (blank_row 0 0 0)

abbrev pub rows_in : List OpenRowView → (window : ℕ) → List ℕ → List OpenRowView
rows_in places window instants = map (row_in places window) instants

-- the places after a change to the row of each of these instants
abbrev pub changed : (OpenRowView → OpenRowView) → (window : ℕ) → List ℕ → List OpenRowView → List OpenRowView
changed change window [] places = places
changed change window (i ∷ instants) places =
    changed change window instants (slice_set places (i % window) (change (row_in places window i)))

-- a row of an instant above this one stands at the place of its instant
abbrev pub StandAbove : (last window : ℕ) → List OpenRowView → Type 0
StandAbove last window places =
    (k : ℕ) → k < length places → last < (slice_index_or places k (blank_row 0 0 0)).instant → (slice_index_or places k (blank_row 0 0 0)).instant % window ≡ k

-- the places after what others have at that of each of these instants was copied to it
abbrev pub copied : {A : Type 0} → (default : A) → (window : ℕ) → List ℕ → (others places : List A) → List A
copied default window [] others places = places
copied default window (i ∷ instants) others places =
    copied default window instants others (slice_set places (i % window) (slice_index_or others (i % window) default))

-- the row at the place, where it is of this instant
abbrev pub met_row : (i : ℕ) → OpenRowView → Option OpenRowView
met_row i row = if row.instant == i then Some row else None

-- the row that a frame for this instant is put into: the one at the place, else a new one there
abbrev pub base_row : (i : ℕ) → OpenRowView → OpenRowView
base_row i row = unwrap_or (met_row i row) (blank_row (length row.taken) (length row.columns) i)

-- the layout without columns
abbrev pub no_layout : LayoutView
no_layout = record { start = 0; change = 0; shapes = [] }

-- the layout at the place of an instant
abbrev pub layout_in : List LayoutView → (window i : ℕ) → LayoutView
layout_in layouts window i = slice_index_or layouts (i % window) no_layout

-- the row that a closed instant gives: the one at its place, under the layout there
abbrev pub closed_row : List OpenRowView → List LayoutView → (window i : ℕ) → RowView
closed_row places layouts window i = row_of (layout_in layouts window i) (row_in places window i)

abbrev pub closed_rows : List OpenRowView → List LayoutView → (window : ℕ) → List ℕ → List RowView
closed_rows places layouts window instants = map (closed_row places layouts window) instants

-- the layouts after this one was put at the place of each of these instants
abbrev pub laid : LayoutView → (window : ℕ) → List ℕ → List LayoutView → List LayoutView
laid layout window [] layouts = layouts
laid layout window (i ∷ instants) layouts = laid layout window instants (slice_set layouts (i % window) layout)
