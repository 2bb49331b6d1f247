-- A table as a ring: each instant has a place, which is its remainder by the window.
use Rattle.std.specs.Prelude.{◌≡◌, ◌<◌, ◌≤◌, ◌==◌, true, [], ◌∷◌, length}
use Rattle.std.specs.List.{All, AllByRecursion, list_any}
use Rattle.pdc_table.specs.Content.{Content, HasPlaces, IsContent, streams_of}
use Rattle.pdc_table.specs.TableView.{TableView}
use Rattle.pdc_open_row.specs.Views.{OpenRowView}
use Rattle.pdc_table.specs.declared.ring_table.RingTable.TheInside.{Inside}
use Rattle.pdc_table.specs.RingRows.{StandAbove, closed_rows, rows_in, row_in, with_ages}

abbrev pub content_of : Inside → Content
content_of t = record {
  window = t.circle.window;
  columns = t.columns;
  lanes = t.lanes;
  required = t.required.items;
  open_rows = rows_in (with_ages t.rows.places.items t.rows.ages.items) t.circle.window t.rows.open.items;
  closed = closed_rows (with_ages t.rows.places.items t.rows.ages.items) t.closed.layouts.items t.circle.window t.closed.instants.items;
  last = t.closed.last;
}

-- its places, their ages and layouts, its open instants, and its closed ones
abbrev pub view_of : Inside → TableView
view_of t = record {
  content = content_of t;
  disagreements = t.closed.disagree;
  memory = t.rows.places.capacity ∷ t.rows.ages.capacity ∷ t.closed.layouts.capacity ∷ t.rows.open.capacity ∷ t.closed.instants.capacity ∷ [];
}

-- There is a place for each instant of the window, and room for each instant that can be held. At the place of an instant that
-- is held stands its row, and of a closed one the layout that it closed under; a row of an instant above the last closed is
-- that of an open one, and stands at its place.
pub record IsKept (t : Inside) : Type 0 where
  pub content : IsContent (content_of t)
  pub size : length t.rows.places.items ≡ t.circle.window
  pub each : All (HasPlaces (streams_of (content_of t)) t.columns) t.rows.places.items
  pub placed : AllByRecursion (λ i. (row_in t.rows.places.items t.circle.window i).instant ≡ i) t.rows.open.items
  pub ages : length t.rows.ages.items ≡ t.circle.window
  pub layouts : length t.closed.layouts.items ≡ t.circle.window
  pub closed_placed : AllByRecursion (λ i. (row_in t.rows.places.items t.circle.window i).instant ≡ i) t.closed.instants.items
  pub known : All (λ (row : OpenRowView). t.closed.last < row.instant → list_any (λ i. i == row.instant) t.rows.open.items ≡ true) t.rows.places.items
  pub stand : StandAbove t.closed.last t.circle.window t.rows.places.items
  pub room : t.circle.window ≤ t.rows.open.capacity
  pub closed_room : t.circle.window ≤ t.closed.instants.capacity
