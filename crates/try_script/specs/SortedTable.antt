-- What a sorted table contains, and what holds of it.
use Rattle.std.specs.Prelude.{◌≡◌, ◌+◌, ◌≤◌, [], ◌∷◌, length, map}
use Rattle.std.specs.List.{AllByRecursion}
use Rattle.std.specs.Vec.{vec_capacity}
use Rattle.pdc_row.specs.RowView.{row_view}
use Rattle.pdc_table.specs.Content.{Content, HasPlaces, IsContent, streams_of}
use Rattle.pdc_table.specs.TableView.{TableView}
use Rattle.try_script.specs.declared.sorted_table.SortedTable.TheInside.{Inside}

abbrev pub content_of : Inside → Content
content_of t = record {
  window = t.window;
  columns = t.columns;
  lanes = t.lanes;
  required = t.required.items;
  open_rows = t.rows.items;
  closed = map row_view t.closed.items;
  last = t.last;
}

-- the places of its rows, of those that are free, and of its closed rows
abbrev pub view_of : Inside → TableView
view_of t = record {
  content = content_of t;
  disagreements = t.disagree;
  memory = vec_capacity t.rows ∷ t.free.capacity ∷ t.closed.capacity ∷ [];
}

-- There is room for each instant that can be held, and a row: the open ones and the free ones are as many as the window has.
pub record IsKept (t : Inside) : Type 0 where
  pub content : IsContent (content_of t)
  pub room : t.window ≤ vec_capacity t.rows
  pub rows : length t.rows.items + length t.free.items ≡ t.window
  pub free_each : AllByRecursion (HasPlaces (streams_of (content_of t)) t.columns) t.free.items
  pub free_room : t.window ≤ t.free.capacity
  pub closed_room : t.window ≤ t.closed.capacity
