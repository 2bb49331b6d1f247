-- What a table contains, however it is kept.
use Rattle.std.specs.Prelude.{◌≡◌, ◌≢◌, ℕ, ◌+◌, ◌<◌, ◌≤◌, ◌++◌, ◌==◌, Bool, false, if◌then◌else◌, List, [], ◌∷◌, length, replicate, Option, Some, None}
use Rattle.std.specs.List.{All, AllByRecursion}
use Rattle.pdc_open_row.specs.pdc_cfg.declared.shape.Shape.{Shape}
use Rattle.pdc_open_row.specs.pdc_row.CellView.{CellView}
use Rattle.pdc_open_row.specs.pdc_row.RowView.{RowView, row_instants}
use Rattle.pdc_open_row.specs.pdc_row.Rising.{Rises, AreBelow, AreNear}
use Rattle.pdc_table.specs.OpenInstants.{instants_of}
use Rattle.pdc_open_row.specs.pdc_columns.Layout.{LayoutView}
use Rattle.pdc_open_row.specs.Streams.{stream_count}
use Rattle.pdc_open_row.specs.pdc_columns.Views.{ColumnView}
use Rattle.pdc_open_row.specs.Views.{OpenRowView}
use Rattle.pdc_open_row.specs.pdc_columns.declared.limits.TheConstants.{MAX_COLUMNS}

pub record Content : Type 0 where
  -- what is fixed: the window, how many columns there are, and one lane or two
  pub window : ℕ
  pub columns : ℕ
  pub lanes : ℕ
  -- for each stream whether an instant waits for it
  pub required : List Bool
  -- the open instants, in rising order
  pub open_rows : List OpenRowView
  -- the closed rows that were not popped, the first to close first
  pub closed : List RowView
  -- the greatest instant closed, at first the floor
  pub last : ℕ

abbrev pub new_content : (window columns lanes floor : ℕ) → Content
new_content window columns lanes floor = record {
  window = window;
  columns = columns;
  lanes = lanes;
  required = replicate (stream_count columns lanes) false;
  open_rows = [];
  closed = [];
  last = floor;
}

abbrev pub streams_of : Content → ℕ
streams_of c = stream_count c.columns c.lanes

abbrev pub lane_of : Content → ℕ → ℕ
lane_of c stream = if c.lanes == 1 then 0 else stream

-- The instants that are held: those of closed rows that were not popped, and the open ones.
abbrev pub held_instants : Content → List ℕ
held_instants c = row_instants c.closed ++ instants_of c.open_rows

-- the row has a place for each stream, and for each column
pub record HasPlaces (streams width : ℕ) (row : OpenRowView) : Type 0 where
  pub taken : length row.taken ≡ streams
  pub columns : length row.columns ≡ width

-- What holds of each table: its sizes are within the limits, and its lists have them; the instants held rise and are near
-- each other; the open ones are above the last closed, and the closed ones are not.
pub record IsContent (c : Content) : Type 0 where
  pub window_least : 8 ≤ c.window
  pub window_most : c.window ≤ 256
  pub columns_least : 1 ≤ c.columns
  pub columns_most : c.columns ≤ MAX_COLUMNS
  pub lanes_least : 1 ≤ c.lanes
  pub lanes_most : c.lanes ≤ 2
  pub required_each : length c.required ≡ streams_of c
  pub rows_each : AllByRecursion (HasPlaces (streams_of c) c.columns) c.open_rows
  pub held_rise : Rises 0 (held_instants c)
  pub held_near : AreNear c.window (held_instants c)
  pub open_above : Rises c.last (instants_of c.open_rows)
  pub closed_below : AreBelow (c.last + 1) (row_instants c.closed)

-- the sizes of a table never change
pub record HasSizesOf (old new : Content) : Type 0 where
  pub window : new.window ≡ old.window
  pub columns : new.columns ≡ old.columns
  pub lanes : new.lanes ≡ old.lanes

-- no cell is of this column
abbrev pub NoneIsOf : ℕ → List (ℕ × CellView) → Type 0
NoneIsOf column [] = Unit {0}
NoneIsOf column (cell ∷ cells) = (cell.0 ≢ column) × NoneIsOf column cells

-- each column has at most one cell
abbrev pub HaveOwnColumns : List (ℕ × CellView) → Type 0
HaveOwnColumns [] = Unit {0}
HaveOwnColumns (cell ∷ cells) = NoneIsOf cell.0 cells × HaveOwnColumns cells

-- What a put may be given: a stream that exists, and cells of columns that the stream writes, each once.
pub record IsPut (c : Content) (stream : ℕ) (cells : List (ℕ × CellView)) : Type 0 where
  pub stream_exists : stream < streams_of c
  pub columns_exist : All (λ (cell : ℕ × CellView). cell.0 < c.columns) cells
  pub own_column : c.lanes ≡ 1 → All (λ (cell : ℕ × CellView). cell.0 ≡ stream) cells
  pub once : HaveOwnColumns cells

abbrev pub HasShape : Shape → Option CellView → Type 0
HasShape shape None = Unit {0}
HasShape shape (Some cell) = cell.block.shape ≡ shape

abbrev pub ColumnHasShape : Option Shape → ColumnView → Type 0
ColumnHasShape None column = Unit {0}
ColumnHasShape (Some shape) column = HasShape shape column.first × HasShape shape column.second

-- each cell in a column with a shape has that shape
abbrev pub HaveShapes : List (Option Shape) → List ColumnView → Type 0
HaveShapes [] columns = Unit {0}
HaveShapes (shape ∷ shapes) [] = Unit {0}
HaveShapes (shape ∷ shapes) (column ∷ columns) = ColumnHasShape shape column × HaveShapes shapes columns

-- The cells of the open instants have the shapes of the layout.
abbrev pub HaveLayoutShapes : Content → LayoutView → Type 0
HaveLayoutShapes c layout = AllByRecursion (λ (row : OpenRowView). HaveShapes layout.shapes row.columns) c.open_rows
