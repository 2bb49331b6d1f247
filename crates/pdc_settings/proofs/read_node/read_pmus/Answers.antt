use Rattle.std.proofs.Common.{◌≡◌, ◌∙◌, IsTrue, List, ap, map, subst, sym, arith, None, Some}
use Rattle.std.specs.Prelude.{nat_le}
use Rattle.std.specs.List.{list_all}
use Rattle.std.proofs.lemmas.List.{map_push}
use Rattle.toml.specs.View.{items_view}
use Rattle.pdc_life.specs.declared.pmu.Pmu.{Pmu as PmuData}
use Rattle.pdc_settings.specs.Entries.{PmuFields, each_of, pmu_fields, pmu_of}
use Rattle.pdc_settings.proofs.Tables.{each-taken, none-taken, on_err, passes-push}
use Rattle.pdc_settings.proofs.read_node.read_pmus.Goals as goal

pub returns-in_err-read_pmu_of-clause-none : goal.returns-in_err-read_pmu_of-clause-none
returns-in_err-read_pmu_of-clause-none c =
    on_err c.from_residual.result (each_of (pmu_of c.args.rate) (items_view c.args.values.now) ≡ None)
    (none-taken (pmu_of c.args.rate) c.args.values.now c.loop-value.value-index c.value-item.result (omega (arith, c.loop-value-test.true)) c.value-item.is c.in_err-read_pmu_of.ensures.none)

pub loop-value-preserved : goal.loop-value-preserved
loop-value-preserved c = record {
  len = omega (arith, c.push.ensures.len, c.loop-value.invariant.len);
  end = c.loop-value.invariant.end;
  each = each-taken (pmu_of c.args.rate) c.args.values.now c.loop-value.value-index (map pmu_fields c.loop-value.pmus.items) c.value-item.result (pmu_fields c.in_ok-read_pmu_of.field-0) (omega (arith, c.loop-value-test.true)) c.value-item.is
      c.loop-value.invariant.each c.in_ok-read_pmu_of.ensures.value
      ∙ ap (λ (pmus : List PmuFields). Some pmus) (sym (map_push pmu_fields c.loop-value.pmus.items c.in_ok-read_pmu_of.field-0) ∙ ap (map pmu_fields) (sym c.push.ensures.items));
  bases = subst (λ (pmus : List PmuData). IsTrue (list_all (λ (pmu : PmuData). nat_le c.args.rate pmu.time_base) pmus)) (sym c.push.ensures.items)
      (passes-push (λ (pmu : PmuData). nat_le c.args.rate pmu.time_base) c.loop-value.pmus.items c.in_ok-read_pmu_of.field-0 c.loop-value.invariant.bases c.in_ok-read_pmu_of.ensures.base);
}
