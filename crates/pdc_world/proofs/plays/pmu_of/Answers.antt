-- No PMU has this stream id.
use Rattle.std.proofs.Common.{◌∙◌, ◌≡◌, ◌≢◌, ap, IfNone, List, None, Option, option_map, refl, Some, sym, ℕ}
use Rattle.pdc_world.proofs.Names.{All, get_or_from_slice_get, ids_of, Pmu, slice_get, slice_get-map, slice_get_within}
use Rattle.pdc_world.proofs.plays.pmu_of.Goals as goal

at_place : (xs : List Pmu) (id s : ℕ) (o : Option Pmu) → All (λ (pmu : Pmu). pmu.stream.value ≢ id) xs → slice_get xs s ≡ o → option_map (λ (pmu : Pmu). pmu.stream.value) o ≡ Some id → ⊥
at_place xs id s None all is same = cc
at_place xs id s (Some pmu) all is same =
    all s pmu (slice_get_within xs s pmu is) (let e : pmu.stream.value ≡ id = cc in ap (λ (p : Pmu). p.stream.value) (get_or_from_slice_get xs s pmu pmu is) ∙ e)

none_named : (xs : List Pmu) (id : ℕ) (o : Option ℕ) → IfNone o (All (λ (pmu : Pmu). pmu.stream.value ≢ id) xs) → IfNone o ((s : ℕ) → slice_get (ids_of xs) s ≢ Some id)
none_named xs id None all = λ s same. at_place xs id s (slice_get xs s) all refl (sym (slice_get-map (λ (pmu : Pmu). pmu.stream.value) xs s) ∙ same)
none_named xs id (Some n) all = tt

pub returns-clause-none : goal.returns-clause-none
returns-clause-none c = none_named c.args.settings.now.pmus.items c.args.id c.first_of.result (rw c.as_slice.ensures.value at c.first_of.ensures.none)
