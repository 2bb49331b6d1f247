-- The configuration that a PMU sends.
use Rattle.std.proofs.Common.{◌≡◌, ◌+◌, pos, [], ◌∷◌}
use Rattle.pdc_cfg.specs.Config.{ConfigFields}
use Rattle.pdc_cfg.specs.Section.{SectionFields}
use Rattle.pdc_simulation.specs.Pmu.{PmuView, next_config}
use Rattle.pdc_simulation.specs.Renamed.{renamed}

pub same_config : (pmu : PmuView) (s : SectionFields) (config : ConfigFields) → config.flags ≡ 0 → config.time_base ≡ pmu.time_base → config.sections ≡ renamed pmu.id (pmu.count + 1) s ∷ [] → config.rate ≡ pos pmu.rate → config ≡ next_config pmu s
same_config pmu s config a b d e = λ i. record { flags = a i; time_base = b i; sections = d i; rate = e i }
