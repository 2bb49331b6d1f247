-- A row that was published.
use Rattle.std.specs.Prelude.{ℕ, List}
use Rattle.pdc_row.specs.Layout.{wire_of}
use Rattle.pdc_row.specs.RowView.{RowView, row_view}
use Rattle.pdc_publisher.specs.declared.published_row.PublishedRow.{PublishedRow}

-- the row
abbrev pub row_of : PublishedRow → RowView
row_of published = row_view published.row.value

-- its data frame
abbrev pub frame_in : PublishedRow → List ℕ
frame_in published = wire_of published.output (row_of published)
