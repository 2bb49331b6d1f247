-- The settings of two nodes and a merger agree.
use Rattle.std.specs.{List.{AllByRecursion}, Prelude.{◌<◌, ◌^◌, ◌≡◌, ◌≢◌, List, map, true, ℕ}}
use Rattle.pdc_life.specs.declared.pmu.Pmu.{Pmu}
use Rattle.pdc_history.specs.World.{first_mark, is_same, output_of, Who, World}

-- the ids of the PMUs' streams, their TIME_BASEs and their sources, in the order of the settings
abbrev pub ids_of : List Pmu → List ℕ
ids_of pmus = map (λ (pmu : Pmu). pmu.stream.value) pmus

abbrev pub time_bases_of : List Pmu → List ℕ
time_bases_of pmus = map (λ (pmu : Pmu). pmu.time_base) pmus

abbrev pub sources_of : List Pmu → List ℕ
sources_of pmus = map (λ (pmu : Pmu). pmu.source) pmus

-- Both nodes have the same PMUs in the same order, the merger has their sources and the two nodes, and all have one rate. The own
-- ids are three, and none is a PMU's.
pub record SettingsAgree (W : World) : Type 0 where
  pub streams : ids_of W.b.settings.pmus.items ≡ ids_of W.a.settings.pmus.items
  pub time_bases : time_bases_of W.b.settings.pmus.items ≡ time_bases_of W.a.settings.pmus.items
  pub sources : sources_of W.b.settings.pmus.items ≡ sources_of W.a.settings.pmus.items
  pub merged : W.m.settings.sources.items ≡ sources_of W.a.settings.pmus.items
  pub first_id : W.m.settings.first.id.value ≡ W.a.settings.output.id.value
  pub first_time_base : W.m.settings.first.time_base ≡ W.a.settings.output.time_base
  pub second_id : W.m.settings.second.id.value ≡ W.b.settings.output.id.value
  pub second_time_base : W.m.settings.second.time_base ≡ W.b.settings.output.time_base
  pub rate : (who : Who) → (output_of W who).rate ≡ W.a.settings.output.rate
  pub own_ids : (v w : Who) → (output_of W v).id.value ≡ (output_of W w).id.value → is_same v w ≡ true
  pub no_pmu : (who : Who) → AllByRecursion (λ (pmu : Pmu). pmu.stream.value ≢ (output_of W who).id.value) W.a.settings.pmus.items

-- A world may begin so: its settings agree, and each start number has 32 bits.
pub record MayBegin (W : World) : Type 0 where
  pub settings : SettingsAgree W
  pub starts : (who : Who) → (first_mark W who).start < 2 ^ 32
