-- The row of an instant: what a closed row shows.
use Rattle.pdc_columns.specs.pdc_row.RowView.{RowView}
use Rattle.pdc_columns.specs.pdc_row.Quality.{quality_of}
use Rattle.pdc_columns.specs.Giving.{blocks_of, qualities_of}
use Rattle.pdc_columns.specs.Layout.{LayoutView}
use Rattle.pdc_open_row.specs.Views.{OpenRowView}

-- The row that an open instant closes to, under a layout.
abbrev pub row_of : LayoutView → OpenRowView → RowView
row_of layout row = record {
  instant = row.instant;
  start = layout.start;
  change = layout.change;
  quality = quality_of (qualities_of layout.shapes row.columns);
  blocks = blocks_of layout.shapes row.columns;
}
