use Rattle.std.proofs.Common.{◌≡◌, ◌<◌, ◌∷◌, ℕ, List, [], Some, length, ap, arith, rules, slice_index_or, suc, sym, zero}
use Rattle.std.specs.List.{slice_get}
use Rattle.pdc_life.specs.declared.pmu.Pmu.{Pmu}
use Rattle.pdc_arrival.proofs.from_pmu.hear_from_pmu.Goals as goal

-- what stands at a place of a list
get_listed : (pmus : List Pmu) (p : ℕ) (x : Pmu) → p < length pmus → x ≡ slice_index_or pmus p x → slice_get pmus p ≡ Some x
get_listed [] p x h e = absurd (omega (arith, h))
get_listed (y ∷ pmus) zero x h e = ap Some (sym e)
get_listed (y ∷ pmus) (suc p) x h e = get_listed pmus p x (omega (arith, h)) e

pub returns : goal.returns
returns c = record {
  sender = c.index-deref-stream.result;
  listed = get_listed c.args.settings.now.pmus.items c.args.stream c.index-deref-stream.result (search rules) (search rules);
  reads = c.read_arrival.ensures c.args.stream;
}
