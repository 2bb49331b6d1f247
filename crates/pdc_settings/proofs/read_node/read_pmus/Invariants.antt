use Rattle.std.proofs.Common.{◌≡◌, IsTrue, length, map, take, Some}
use Rattle.std.specs.Prelude.{nat_le}
use Rattle.std.specs.List.{list_all}
use Rattle.toml.specs.View.{items_view}
use Rattle.pdc_life.specs.declared.pmu.Pmu.{Pmu as PmuData}
use Rattle.pdc_settings.specs.Entries.{each_of, pmu_fields, pmu_of}
use Rattle.pdc_settings.proofs.read_node.read_pmus.Given as goal

-- the PMUs of the tables so far
abbrev pub invariant-loop-value : goal.invariant-loop-value
invariant-loop-value l = record {
  len : length l.pmus.items ≡ l.value-index;
  end : l.value-index-end ≡ length l.fn.values;
  each : each_of (pmu_of l.fn.rate) (items_view (take l.value-index l.fn.values)) ≡ Some (map pmu_fields l.pmus.items);
  bases : IsTrue (list_all (λ (pmu : PmuData). nat_le l.fn.rate pmu.time_base) l.pmus.items);
}
