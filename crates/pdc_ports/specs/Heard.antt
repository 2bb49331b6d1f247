-- What a source says when it is asked for a datagram.
use Rattle.std.specs.Prelude.{ℕ, List, ◌++◌, take}
use Rattle.pdc_ports.specs.declared.source.Next.{Next}
use Rattle.pdc_ports.specs.declared.source.Next.TheVariants.{Datagram, Idle, End, Fault, Stuck}

-- It gave a datagram with these bytes; or nothing came, nothing will come, its device failed, it gave up waiting.
pub data Heard : Type 0 where
  Gave : (bytes : List ℕ) → Heard
  Idled : Heard
  Ended : Heard
  Failed : Heard
  GaveUp : Heard

-- what was heard by an answer, and by the buffer that it left
abbrev pub heard_by : Next → (buffer : List ℕ) → Heard
heard_by (Datagram n) buffer = Gave (take n buffer)
heard_by Idle buffer = Idled
heard_by End buffer = Ended
heard_by Fault buffer = Failed
heard_by Stuck buffer = GaveUp

-- Between the one state and the other a source said this, in order: whatever it had said before, then it had said this more.
abbrev pub HasTold : {S : Type 0} (told : S → List Heard → Type 0) (old new : S) → List Heard → Type 0
HasTold told old new heard = (before : List Heard) → told old before → told new (before ++ heard)

-- From this state on a source said this, in order.
abbrev pub TellsFrom : {S : Type 0} (told : S → List Heard → Type 0) (source : S) → List Heard → Type 0
TellsFrom {S} told source heard = (after : S) × HasTold told source after heard
