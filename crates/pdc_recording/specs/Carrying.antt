-- Which steps the files of a record carry over, and when one begins.
use Rattle.std.specs.Prelude.{◌≡◌, refl, ℕ, ◌+◌, Bool, true, false, nat_lt, ◌&&◌, ◌||◌}
use Rattle.pdc_record.specs.pdc_life.declared.outcome.Outcome.{Outcome}
use Rattle.pdc_record.specs.pdc_life.declared.outcome.Outcome.TheVariants.{Candidate, Known, Refused, Taken}
use Rattle.pdc_record.specs.pdc_life.declared.outcome.Refusal.TheVariants.{Late}
use Rattle.pdc_recording.specs.declared.carrying.Carrying.{Carrying}
use Rattle.pdc_recording.specs.declared.carrying.Carrying.TheVariants.{Configuration, Data, Nothing}
use Rattle.pdc_recording.specs.declared.carrying.TheConstants.{SLACK}

-- A configuration that was held, and data that was taken, are what a core keeps of what came. Of a configuration that is known already, and of
-- what is refused, it keeps nothing.
abbrev pub carrying_of : Outcome → Carrying
carrying_of Candidate = Configuration
carrying_of Taken = Data
carrying_of outcome = Nothing

-- A file that is full ends where no row waits, or else once it is 1 MiB larger than it is to be.
abbrev pub begins_next : (len size : ℕ) → (is_quiet : Bool) → Bool
begins_next len size is_quiet = nat_lt size len && (is_quiet || nat_lt (size + SLACK) len)

pub known : carrying_of Known ≡ Nothing
known = refl

pub late : carrying_of (Refused Late) ≡ Nothing
late = refl

-- of a file that is to have 1 MiB: with one byte more it ends where no row waits, and else with 1 MiB and one byte more
pub fits : begins_next 1_048_576 1_048_576 true ≡ false
fits = refl

pub is_quiet : begins_next 1_048_577 1_048_576 true ≡ true
is_quiet = refl

pub waits : begins_next 2_097_152 1_048_576 false ≡ false
waits = refl

pub is_long : begins_next 2_097_153 1_048_576 false ≡ true
is_long = refl
