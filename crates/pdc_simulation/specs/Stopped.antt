-- Why a simulation ended early, and what the sink took then.
use Rattle.std.specs.Prelude.{◌≡◌, ℕ, List, [], None}
use Rattle.pdc_simulation.specs.declared.pmu_fault.PmuFault.TheVariants as Refused
use Rattle.pdc_ports.specs.Failures.{HasRisen}
use Rattle.pdc_simulation.specs.Sent.{IsCutShort, Run}
use Rattle.pdc_simulation.specs.declared.fault.SimulationFault.{SimulationFault}
use Rattle.pdc_simulation.specs.declared.fault.SimulationFault.TheVariants.{Clock, Layout, NoMemory, NotSent, Pmu}

-- While frames were sent: the sink failed, the clock could not be read, or the PMU had no memory for a frame.
abbrev pub IsCause : SimulationFault → (failures failures_now : ℕ) → Type 0
IsCause (NotSent None) failures failures_now = HasRisen failures failures_now
IsCause (Clock error) failures failures_now = Unit {0}
IsCause (Pmu fault) failures failures_now = fault ≡ Refused.NoMemory
IsCause _ failures failures_now = ⊥

-- the clock could not be read
abbrev pub IsClock : SimulationFault → Type 0
IsClock (Clock error) = Unit {0}
IsClock _ = ⊥

-- Before a frame was sent: there was no memory for the configuration, or it is not of as many words as are to be sent.
abbrev pub IsUnbegun : SimulationFault → Type 0
IsUnbegun NoMemory = Unit {0}
IsUnbegun Layout = Unit {0}
IsUnbegun (Pmu fault) = fault ≡ Refused.NoMemory
IsUnbegun _ = ⊥

-- In either case the sink took a first part of the run's frames; none, where the configuration could not be made.
abbrev pub IsStopped : {K : Type 0} (took : K → K → List (List ℕ) → Type 0) (failures_of : K → ℕ) (run : Run) (before now : K) → SimulationFault → Type 0
IsStopped took failures_of run before now NoMemory = took before now []
IsStopped took failures_of run before now Layout = took before now []
IsStopped took failures_of run before now fault = IsCutShort took run before now × IsCause fault (failures_of before) (failures_of now)
