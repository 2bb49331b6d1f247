-- What a receiver heard of its source, and what came of it.
use Rattle.std.specs.Prelude.{◌≡◌, ℕ, ◌+◌, List, [], ◌∷◌, ◌++◌, length, map, sum, Option, None, Some}
use Rattle.pdc_life.specs.Answer.{ReadStep, Rules, ToArrive}
use Rattle.pdc_life.specs.Arrival.{Arrival}
use Rattle.pdc_life.specs.Given.{Given}
use Rattle.pdc_life.specs.declared.outcome.Outcome.{Outcome}
use Rattle.pdc_log.specs.Among.{IsAmong}
use Rattle.pdc_log.specs.Log.{HasAdded, brought, life_of}
use Rattle.pdc_ports.specs.Heard.{Heard, Gave, Idled, Ended, Failed, GaveUp}
use Rattle.pdc_hub.specs.declared.fault.HubFault.{HubFault}
use Rattle.pdc_hub.specs.declared.fault.HubFault.TheVariants.{SourceFault, Stuck}
use Rattle.pdc_hub.specs.Counted.{refused_by, taken_by}
use Rattle.pdc_hub.specs.Faults.{IsOfDelivery}

-- Each datagram that was heard stands here with its answer, in order; else nothing came but pauses.
abbrev pub AreServed : List Heard → List (List ℕ × Outcome) → Type 0
AreServed [] [] = Unit {0}
AreServed (Gave bytes ∷ hs) (own ∷ owns) = (bytes ≡ own.0) × AreServed hs owns
AreServed (Idled ∷ hs) owns = AreServed hs owns
AreServed hs owns = ⊥

-- These stand, in this order, among what the stream brought in the life of the log, of which so much was seen, and what it was answered.
abbrev pub AreBrought : (rules : Rules) (named : Option Given) (stream : ℕ) (seen : List ReadStep) → List (List ℕ × Outcome) → Type 0
AreBrought rules named stream seen own = (g : Given) → named ≡ Some g → ∥ IsAmong own (brought stream (life_of rules g seen)) ∥₁

-- These bytes were added to the log for the stream, as what they say, and were answered so in its life.
pub record WasBrought (rules : Rules) (named : Option Given) (stream : ℕ) (bytes : List ℕ) (before after : List ReadStep) (outcome : Outcome) : Type 0 where
  pub arrival : Arrival
  pub number : ℕ
  pub added : HasAdded rules named (ToArrive stream bytes arrival) before after number (λ g E. outcome ≡ (rules g E stream arrival).outcome)

-- A receiver ends so by what it heard last: by a datagram only where it could not be delivered, by a pause only where the hub was closed,
-- and by the end of its source; by the failure of its source, or where that gave up.
abbrev pub EndsBy : (Closed : Type 0) → Heard → Option HubFault → Type 0
EndsBy Closed (Gave bytes) (Some fault) = IsOfDelivery fault
EndsBy Closed Idled None = Closed
EndsBy Closed Ended None = Unit {0}
EndsBy Closed Failed (Some SourceFault) = Unit {0}
EndsBy Closed GaveUp (Some Stuck) = Unit {0}
EndsBy Closed last fault = ⊥

-- All that a receiver heard: each datagram was delivered and answered, but for the last thing heard, by which it ended. So many were
-- taken, so many refused, and so many were configurations.
pub record HasReceived (Told : List Heard → Type 0) (Brought : List (List ℕ × Outcome) → Type 0) (Closed : Type 0) (taken refused configured : ℕ) (fault : Option HubFault) : Type 0 where
  pub served : List Heard
  pub last : Heard
  pub told : Told (served ++ last ∷ [])
  pub own : List (List ℕ × Outcome)
  pub are_served : AreServed served own
  pub are_brought : Brought own
  pub ends : EndsBy Closed last fault
  pub taken_counted : taken ≡ sum (map (λ p. taken_by p.1) own)
  pub refused_counted : refused ≡ sum (map (λ p. refused_by p.1) own)
  pub all_counted : length own ≡ (taken + refused) + configured
