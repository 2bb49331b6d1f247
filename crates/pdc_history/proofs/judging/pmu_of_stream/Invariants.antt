use Rattle.std.proofs.Common.{◌≡◌, ℕ, ◌<◌, Some}
use Rattle.std.specs.Prelude.{◌≢◌}
use Rattle.std.specs.List.{slice_get}
use Rattle.pdc_life.specs.declared.pmu.Pmu.{Pmu}
use Rattle.pdc_history.proofs.judging.pmu_of_stream.Given as goal

abbrev pub invariant-loop-pmu : goal.invariant-loop-pmu
invariant-loop-pmu l = (p : ℕ) (pmu : Pmu) → p < l.pmu-index → slice_get l.pmus p ≡ Some pmu → pmu.stream.value ≢ l.id
