use Rattle.std.proofs.Common.{ℕ, List, [], get_or, sym, subst, ap}
use Rattle.std.specs.Option.{option_map}
use Rattle.std.proofs.lemmas.Option.{get_or_from_slice_get}
use Rattle.pdc_history.specs.Chains.{HavePassed}
use Rattle.pdc_history.specs.Sent.{HasTold, HasToldNothing}
use Rattle.pdc_history.specs.Told.{Tells}
use Rattle.pdc_history.proofs.Descent.{pass_on}
use Rattle.pdc_history.proofs.Lookups.{has_told, match_some, not_some, nothing_told}
use Rattle.pdc_history.proofs.looking_up.content_told.Goals as goal

pub returns-then-is_some : goal.returns-then-is_some
returns-then-is_some c p listed =
    match_some c.content_under-content.result (HasToldNothing c.args.settings.now c.args.frames.now.frames c.args.pmu.now c.args.key)
    (λ content. HasTold c.args.settings.now c.args.frames.now.frames c.args.pmu.now c.args.key content.now) (sym c.if-is_some.ensures)
    (λ content is. has_told c.args.settings.now c.args.frames.now.frames c.args.by_key.now.keys p c.args.pmu.now c.args.key c.in-Some.number c.at.result.now content.now c.requires.index listed c.at.ensures
    (c.content_under-content.ensures.found content.now (ap (option_map (λ x. x.now)) is)))

pub loop-next-preserved : goal.loop-next-preserved
loop-next-preserved c =
    let P : ℕ → Type 0 = λ n. (x : List ℕ) → Tells c.args.settings.now c.args.pmu.now (get_or c.args.frames.now.frames n []) c.args.key x → ⊥ in
    let here : P c.in-Some.number = λ x tells.
    not_some c.content_under-content.result (λ y. y.now) x (sym c.if-is_some.ensures)
    (c.content_under-content.ensures.only x
    (subst (λ (z : List ℕ). Tells c.args.settings.now c.args.pmu.now z c.args.key x) (get_or_from_slice_get c.args.frames.now.frames c.in-Some.number c.at.result.now [] c.at.ensures) tells)) in
    pass_on c.args.by_key.now.keys c.bucket_under-bucket.result c.in-Some.number P c.before-next.result
    (subst (HavePassed c.args.by_key.now.keys c.bucket_under-bucket.result P) c.in-Some.is c.loop-next.invariant) here c.before-next.ensures

pub returns : goal.returns
returns c p listed other x among tells =
    let P : ℕ → Type 0 = λ n. (x : List ℕ) → Tells c.args.settings.now c.args.pmu.now (get_or c.args.frames.now.frames n []) c.args.key x → ⊥ in
    nothing_told c.args.settings.now c.args.frames.now.frames c.args.by_key.now.keys c.bucket_under-bucket.result p c.args.pmu.now c.args.key c.requires.index listed c.bucket_under-bucket.ensures.bucket
    (subst (HavePassed c.args.by_key.now.keys c.bucket_under-bucket.result P) c.in_default.is c.loop-next.invariant) other x among tells
