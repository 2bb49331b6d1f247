use Rattle.std.proofs.Common.{◌<◌, ◌++◌, ◌∷◌, [], ℕ, List, Some, None, length, ap, refl, subst, sym, ◌∙◌}
use Rattle.std.specs.Prelude.{slice_set}
use Rattle.std.proofs.lemmas.List.{get_or_read_under}
use Rattle.pdc_history.specs.declared.chains.Entry.{Entry}
use Rattle.pdc_history.specs.Chains.{AreChains, ChainsView}
use Rattle.pdc_history.proofs.Descent.{chains_push}
use Rattle.pdc_history.proofs.chains.Chains.push_reserved.Goals as goal

pub invariant_of-self : goal.invariant_of-self
invariant_of-self c =
    let e : Entry = record { bucket = c.args.bucket; before = c.item-before.result.now } in
    let low : c.args.bucket < length c.self.inside.lasts.items = subst (λ (n : ℕ). c.args.bucket < n) (sym (ap (λ (v : ChainsView). v.buckets) c.self.view_is)) c.requires.bucket in
    subst (λ (E : List Entry). AreChains (slice_set c.self.inside.lasts.items c.args.bucket (Some c.len-number.result)) E) (sym c.push_reserved.ensures.items)
    (subst (λ (n : ℕ). AreChains (slice_set c.self.inside.lasts.items c.args.bucket (Some n)) (c.self.inside.entries.items ++ e ∷ [])) (sym (c.len-number.ensures ∙ c.self.inside.entries.ok.0))
    (chains_push c.self.inside.lasts.items c.self.inside.entries.items e low
    (get_or_read_under c.self.inside.lasts.items c.args.bucket (length c.self.inside.lasts.items) c.item-before.result.now None c.item-before.ensures low refl) c.self.invariant))
