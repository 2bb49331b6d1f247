-- A PMU of a run before it sends.
use Rattle.std.specs.Prelude.{ℕ, List}
use Rattle.pdc_simulation.specs.Pmu.{PmuView}
use Rattle.pdc_simulation.specs.Sent.{IsConfigured, Run, Stands}

-- It stands before its first instant, and this is the frame of its configuration.
pub record IsBegun (run : Run) (pmu : PmuView) (config : List ℕ) : Type 0 where
  pub stands : Stands run 0 pmu
  pub configured : IsConfigured run config
