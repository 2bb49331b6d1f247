-- A step that is kept.
use Rattle.std.specs.Prelude.{◌≡◌, ℕ, List, [], ◌∷◌, ◌++◌}
use Rattle.pdc_core.specs.KeptArrival.{taken_view}
use Rattle.pdc_core.specs.declared.kept_arrival.KeptArrival.{KeptArrival}
use Rattle.pdc_core.specs.declared.step.CoreStep.{CoreStep}
use Rattle.pdc_core.specs.declared.step.CoreStep.TheVariants as core
use Rattle.pdc_life.specs.Arrival.{Arrival}

-- By it something arrived for the stream, and what is kept of that says it.
pub record IsKept (stream : ℕ) (arrival : Arrival) (step : CoreStep) : Type 0 where
  pub taken : KeptArrival
  pub is : step ≡ core.Arrive stream taken
  pub says : taken_view taken ≡ arrival

-- Behind these steps stands one by which this arrived for the stream.
pub record KeepsArrival (stream : ℕ) (arrival : Arrival) (before after : List CoreStep) : Type 0 where
  pub step : CoreStep
  pub kept : IsKept stream arrival step
  pub added : after ≡ before ++ step ∷ []
