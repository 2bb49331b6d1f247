-- What is known of the bytes of a frame before they are put into an open row, where there is one.
use Rattle.std.specs.Prelude.{ℕ, List, Option, None, Some}
use Rattle.pdc_columns.specs.Twin.{IsTwin}
use Rattle.pdc_open_row.specs.Views.{OpenRowView}

-- Where it is known: the bytes are those of the blocks that the lowest lane of the row holds which holds any.
abbrev pub IsTwinIn : Option (List ℕ) → Option OpenRowView → Type 0
IsTwinIn None row = Unit {0}
IsTwinIn (Some bytes) None = Unit {0}
IsTwinIn (Some bytes) (Some row) = IsTwin (Some bytes) row.columns
