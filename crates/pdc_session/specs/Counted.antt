-- How reads and faults are counted. A counter stays at its greatest value.
use Rattle.std.specs.Prelude.{◌≡◌, refl, ℕ, ◌+◌, ◌-◌, ◌^◌, min, Bool, true, false, not, Result, Ok, Err}
use Rattle.std.specs.IoError.{error_kind}
use Rattle.std.specs.declared.io.Error.{Error}
use Rattle.std.specs.declared.io.ErrorKind.{ErrorKind}
use Rattle.std.specs.declared.io.ErrorKind.TheVariants.{Interrupted}
use Rattle.pdc_session.specs.declared.client_fault.ClientFault.{ClientFault}
use Rattle.pdc_session.specs.declared.client_fault.ClientFault.TheVariants.{Device}

-- a read that was interrupted, and did not fail
abbrev pub is_interrupt : ErrorKind → Bool
is_interrupt Interrupted = true
is_interrupt kind = false

-- the answer of a read tells that its reader failed
abbrev pub is_fault : {T : Type 0} → Result T Error → Bool
is_fault (Ok answer) = false
is_fault (Err error) = not (is_interrupt (error_kind error))

-- a client answers that its reader or writer failed
abbrev pub is_device : {T : Type 0} → Result T ClientFault → Bool
is_device (Err Device) = true
is_device answer = false

-- so many reads more, as far as the counter goes
abbrev pub reads_after : (more reads : ℕ) → ℕ
reads_after more reads = reads + min more (2 ^ 64 - 1 - reads)

-- one fault more, where there was one
abbrev pub faults_after : Bool → ℕ → ℕ
faults_after true faults = min (faults + 1) (2 ^ 64 - 1)
faults_after false faults = faults

-- Worked: three reads behind five are eight.
pub three_more : reads_after 3 5 ≡ 8
three_more = refl
