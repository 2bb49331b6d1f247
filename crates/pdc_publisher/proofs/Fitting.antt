-- A closed row fits a data frame.
use Rattle.std.proofs.lemmas.Bool.{false≢true}
use Rattle.std.proofs.Common.{arith, ◌≡◌, ◌*◌, ◌<◌, ◌++◌, ◌∙◌, [], ap, Err, IsOk, List, Ok, OnOk, Result, ℕ, refl}
use Rattle.pdc_frame.specs.declared.tag_limits.TheConstants.{SECONDS}
use Rattle.pdc_row.specs.KeptBlocks.{AreWhole}
use Rattle.pdc_row.specs.RowView.{row_view}
use Rattle.pdc_row.specs.declared.due_row.DueRow.{DueRow}
use Rattle.pdc_row.specs.declared.output.Output.{Output}
use Rattle.pdc_row.specs.Layout.{wire_of}
use Rattle.pdc_publisher.specs.Published.{Fits, IsRowFrame}

pub fits_of : (output : Output) (row : DueRow) → AreWhole row.blocks → row.instant < SECONDS * output.rate → Fits output (row_view row)
fits_of output row whole tagged = record { few = row.few; shaped = whole; quality = omega (arith, row.quality_fits); tagged = tagged }

pub framed_of : (output : Output) (row : DueRow) (bytes : List ℕ) → AreWhole row.blocks → row.instant < SECONDS * output.rate → bytes ≡ wire_of output (row_view row)
    → IsRowFrame row.instant row.start row.change bytes output (row_view row)
framed_of output row bytes whole tagged wire = record { at = refl; begun = refl; changed = refl; wire = wire; fits = fits_of output row whole tagged }

-- What was appended to nothing is all that is there.
pub appended : {T E : Type 0} (r : Result T E) (new old wire : List ℕ) → IsOk r → OnOk r (new ≡ old ++ wire) → old ≡ [] → new ≡ wire
appended (Ok x) new old wire ok same none = same ∙ ap (λ (bytes : List ℕ). bytes ++ wire) none
appended (Err e) new old wire ok same none = absurd (false≢true ok)
