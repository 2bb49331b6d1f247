-- A client, and what its calls leave.
use Rattle.std.specs.Prelude.{◌≡◌, ℕ, List, Option, Some, None, Result, IfErr, OnOk, IsErrOf}
use Rattle.pdc_frame.specs.Stream.{Held}
use Rattle.pdc_session.specs.Counting.{faults_of, inner_of, reads_of}
use Rattle.pdc_session.specs.declared.client.Pdc.{Pdc}
use Rattle.pdc_session.specs.declared.client_fault.ClientFault.{ClientFault}

-- the id of the stream that it asks for
abbrev pub id_in : {S A : Type 0} → Pdc S A → ℕ
id_in pdc = pdc.id.value

-- what it reads from and writes to
abbrev pub stream_in : {S A : Type 0} → Pdc S A → S
stream_in pdc = inner_of pdc.stream

-- how often that was read
abbrev pub reads_in : {S A : Type 0} → Pdc S A → ℕ
reads_in pdc = reads_of pdc.stream

-- how often a read or a write of it failed
abbrev pub faults_in : {S A : Type 0} → Pdc S A → ℕ
faults_in pdc = faults_of pdc.stream

-- what its framer holds
abbrev pub held_in : {S A : Type 0} → Pdc S A → Held
held_in pdc = pdc.framer

-- the bytes that were read ahead
abbrev pub unread_in : {S A : Type 0} → Pdc S A → List ℕ
unread_in pdc = pdc.unread

-- how many reads the last search had left
abbrev pub reads_left_in : {S A : Type 0} → Pdc S A → ℕ
reads_left_in pdc = pdc.reads_left

-- the fault that ended it
abbrev pub ended_in : {S A : Type 0} → Pdc S A → Option ClientFault
ended_in pdc = pdc.ended

-- What every call keeps to: a client that has ended answers its fault again, and stays as it is; one that answers a fault has ended by
-- it, and one that answers Ok goes on.
pub record KeepsFaults {S A T : Type 0} (old new : Pdc S A) (answer : Result T ClientFault) : Type 0 where
  pub id : id_in new ≡ id_in old
  pub stays : (fault : ClientFault) → ended_in old ≡ Some fault → IsErrOf answer fault × (new ≡ old)
  pub ended : IfErr answer (λ fault. ended_in new ≡ Some fault)
  pub goes_on : OnOk answer ((ended_in old ≡ None) × (ended_in new ≡ None))
