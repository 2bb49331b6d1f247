-- What becomes of a frame.
use Rattle.std.specs.Prelude.{Bool, true, false}
use Rattle.pdc_show.specs.declared.refusal.NotShown.{NotShown}
use Rattle.pdc_show.specs.declared.refusal.NotShown.TheVariants as why
use Rattle.pdc_export.specs.declared.exporter.Exported.{Exported}
use Rattle.pdc_export.specs.declared.exporter.Exported.TheVariants.{Written, LacksColumns, Refused}

-- it was refused
abbrev pub is_refused : Exported → Bool
is_refused (Written lines) = false
is_refused LacksColumns = false
is_refused (Refused refusal) = true

-- the bytes are no frame
abbrev pub is_of_bytes : NotShown → Bool
is_of_bytes (why.Frame fault) = true
is_of_bytes (why.Config fault) = false
is_of_bytes (why.Command fault) = false
is_of_bytes why.NoConfig = false
is_of_bytes (why.Body fault) = false

-- it was refused since its bytes are no frame
abbrev pub is_no_frame : Exported → Bool
is_no_frame (Written lines) = false
is_no_frame LacksColumns = false
is_no_frame (Refused refusal) = is_of_bytes refusal
