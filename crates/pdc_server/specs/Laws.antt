-- What a publisher sends is what is kept.
use Rattle.std.specs.Prelude.{◌≡◌, ◌*◌, ◌^◌, ◌<◌, ◌≤◌, List, length}
use Rattle.pdc_block.specs.Block.{AreOfShapes}
use Rattle.pdc_cfg.specs.declared.shape.Shape.{Shape}
use Rattle.pdc_row.specs.RowView.{RowView}
use Rattle.pdc_frame.specs.declared.tag_limits.TheConstants.{SECONDS}
use Rattle.pdc_row.specs.declared.output.Output.{Output}
use Rattle.pdc_row.specs.Laws.{words_of_row}
use Rattle.pdc_row.specs.Layout.{wire_of}
use Rattle.pdc_server.specs.Stream.{IsData, stream_of}
use Rattle.pdc_server.specs.declared.stamp.Stamp.{Stamp}
use Rattle.pdc_row.specs.declared.limits.TheConstants.{MAX_PMUS}

-- The frame of a row, of at most 16 blocks, is a data frame of the row's instant, and of the layout whose stamp the row bears.
abbrev pub RowsAreData : Type 0
RowsAreData =
    (output : Output) (row : RowView) (stamp : Stamp) (shapes : List Shape) → row.start ≡ stamp.start → row.change ≡ stamp.change → length shapes ≤ MAX_PMUS → AreOfShapes shapes (words_of_row row) →
    row.instant < SECONDS * output.rate → row.quality < 2 ^ 8 → IsData (stream_of output) stamp row.instant (wire_of output row)
