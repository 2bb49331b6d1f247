-- A published frame.
use Rattle.std.specs.Prelude.{◌≡◌, ◌*◌, ◌<◌, ◌≤◌, ℕ, List, length, map}
use Rattle.pdc_frame.specs.declared.tag_limits.TheConstants.{SECONDS}
use Rattle.pdc_row.specs.CellView.{BlockView}
use Rattle.pdc_row.specs.RowView.{RowView}
use Rattle.pdc_row.specs.pdc_block.Block.{AreOfShapes}
use Rattle.pdc_row.specs.pdc_cfg.declared.shape.Shape.{Shape}
use Rattle.pdc_row.specs.declared.output.Output.{Output}
use Rattle.pdc_row.specs.Laws.{words_of_row}
use Rattle.pdc_row.specs.Layout.{wire_of}
use Rattle.pdc_row.specs.declared.limits.TheConstants.{MAX_PMUS}

abbrev pub shapes_of : RowView → List Shape
shapes_of row = map (λ (block : BlockView). block.shape) row.blocks

-- The row fits a data frame of this rate: at most 16 blocks, each with the words of its shape, a time quality of four bits, and an instant
-- whose second has 32 bits.
pub record Fits (output : Output) (row : RowView) : Type 0 where
  pub few : length row.blocks ≤ MAX_PMUS
  pub shaped : AreOfShapes (shapes_of row) (words_of_row row)
  pub quality : row.quality < 16
  pub tagged : row.instant < SECONDS * output.rate

-- The bytes are the data frame of this row, under this id, rate and TIME_BASE; the row is of the instant, bears the stamp, and fits.
pub record IsRowFrame (instant start change : ℕ) (bytes : List ℕ) (output : Output) (row : RowView) : Type 0 where
  pub at : row.instant ≡ instant
  pub begun : row.start ≡ start
  pub changed : row.change ≡ change
  pub wire : bytes ≡ wire_of output row
  pub fits : Fits output row

-- There is a row of which the bytes are the data frame.
abbrev pub IsOfSomeRow : Output → (instant start change : ℕ) → List ℕ → Type 0
IsOfSomeRow output instant start change bytes = (row : RowView) × IsRowFrame instant start change bytes output row
