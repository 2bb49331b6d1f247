-- What is kept of a datagram in a record.
use Rattle.std.specs.Prelude.{◌≡◌, refl, ℕ, Bool, true, false, nat_le}
use Rattle.pdc_record.specs.pdc_life.declared.outcome.Outcome.{Outcome}
use Rattle.pdc_record.specs.pdc_life.declared.outcome.Outcome.TheVariants.{Refused, Taken}
use Rattle.pdc_record.specs.pdc_life.declared.outcome.Refusal.TheVariants.{Late, NoFrame}
use Rattle.pdc_record.specs.pdc_frame.declared.fault.FrameFault.TheVariants.{BadCheck}
use Rattle.pdc_recording.specs.declared.kept.TheConstants.{FRONT}

-- each is kept whole, but one that is no frame and longer than 64 bytes
abbrev pub is_kept_whole : Outcome → (len : ℕ) → Bool
is_kept_whole (Refused (NoFrame fault)) len = nat_le len FRONT
is_kept_whole outcome len = true

-- of 65 bytes under another check word the first are kept; 64 are, and a frame that is refused for another cause
pub no_frame : is_kept_whole (Refused (NoFrame BadCheck)) 65 ≡ false
no_frame = refl

pub short : is_kept_whole (Refused (NoFrame BadCheck)) 64 ≡ true
short = refl

pub late : is_kept_whole (Refused Late) 1500 ≡ true
late = refl

pub taken : is_kept_whole Taken 65535 ≡ true
taken = refl
