-- What a layout is answered, by the stamp that is held of its node.
use Rattle.std.specs.Prelude.{Bool, not, if◌then◌else◌, Option, None, Some}
use Rattle.pdc_life.specs.declared.outcome.Outcome.{Outcome}
use Rattle.pdc_life.specs.declared.outcome.Outcome.TheVariants.{Candidate, Known, Refused}
use Rattle.pdc_life.specs.declared.outcome.Refusal.TheVariants.{CountConflict, OldStamp}
use Rattle.pdc_life.specs.Arrival.{Stamp}
use Rattle.pdc_life.specs.Merger.{HeldLayout, is_older}

abbrev pub stamp_of : HeldLayout → Stamp
stamp_of layout = layout.stamp

-- new above the held stamp, old below it, and known at it
abbrev pub stamp_answer : Option Stamp → Stamp → (conflicts : Bool) → Outcome
stamp_answer None stamp conflicts = if conflicts then Refused CountConflict else Candidate
stamp_answer (Some held) stamp conflicts =
    if is_older stamp held then Refused OldStamp
    else (if not (is_older held stamp) then Known
    else (if conflicts then Refused CountConflict else Candidate))
