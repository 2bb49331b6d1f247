use Rattle.std.proofs.Common.{◌≡◌, ◌∙◌, List, [], ◌∷◌, ap, map, refl}
use Rattle.pdc_life.specs.declared.pmu.Pmu.{Pmu as PmuData}
use Rattle.pdc_settings.specs.Entries.{PmuFields, pmu_fields}
use Rattle.pdc_settings.specs.Settings.{are_node_ids}
use Rattle.pdc_settings.proofs.read_node.read_settings.Goals as goal

streams : (pmus : List PmuData) → map (λ (pmu : PmuFields). pmu.stream) (map pmu_fields pmus) ≡ map (λ (pmu : PmuData). pmu.stream.value) pmus
streams [] = refl
streams (pmu ∷ pmus) = ap (λ ids. pmu.stream.value ∷ ids) (streams pmus)

sources : (pmus : List PmuData) → map (λ (pmu : PmuFields). pmu.source) (map pmu_fields pmus) ≡ map (λ (pmu : PmuData). pmu.source) pmus
sources [] = refl
sources (pmu ∷ pmus) = ap (λ ids. pmu.source ∷ ids) (sources pmus)

pub returns-in_default-clause-fault : goal.returns-in_default-clause-fault
returns-in_default-clause-fault c = record {
  keys = c.in-Ok.ensures.whole;
  id = c.in-Ok.common.output.id.value;
  rate = c.in-Ok.common.output.rate;
  pmus = map pmu_fields c.in-Ok.pmus.items;
  id_is = c.in-Ok.ensures.common.output.id;
  rate_is = c.in-Ok.ensures.common.output.rate;
  pmus_are = c.in-Ok.ensures.pmus;
  doubled = ap (λ ids. are_node_ids c.in-Ok.common.output.id.value ids (map (λ (pmu : PmuFields). pmu.source) (map pmu_fields c.in-Ok.pmus.items))) (streams c.in-Ok.pmus.items)
      ∙ ap (are_node_ids c.in-Ok.common.output.id.value (map (λ (pmu : PmuData). pmu.stream.value) c.in-Ok.pmus.items)) (sources c.in-Ok.pmus.items)
      ∙ c.life_of.ensures.doubled c.in_default.is;
}
