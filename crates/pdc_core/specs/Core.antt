-- What a core is told by bytes.
use Rattle.std.specs.Prelude.{◌≡◌, ℕ, List, ◌∷◌}
use Rattle.pdc_align.specs.pdc_life.Answer.{Rules, ToArrive, answered}
use Rattle.pdc_align.specs.pdc_life.Arrival.{Arrival}
use Rattle.pdc_align.specs.pdc_life.Given.{Given}
use Rattle.pdc_align.specs.pdc_life.Life.{Entry}
use Rattle.pdc_align.specs.pdc_life.declared.outcome.Outcome.{Outcome}

-- Bytes that came for a stream say something, and the core answered it as each life does that it stood for: it stands for the life
-- with that step more. What bytes say is one thing.
pub record Hears (Says : ℕ → List ℕ → Arrival → Type 0) (rules : Rules) (Before After : Given → List Entry → Type 0) (stream : ℕ) (bytes : List ℕ) (outcome : Outcome) : Type 0 where
  pub arrival : Arrival
  pub says : Says stream bytes arrival
  pub answer : (g : Given) (E : List Entry) → Before g E → outcome ≡ (rules g E stream arrival).outcome
  pub stands : (g : Given) (E : List Entry) → Before g E → After g (answered rules g E (ToArrive stream bytes arrival) ∷ E)
