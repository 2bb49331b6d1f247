use Rattle.std.proofs.Common.{ℕ, [], get_or, sym, subst, ◌∙◌, refl}
use Rattle.std.specs.Prelude.{◌≢◌}
use Rattle.std.specs.Cmp.Lexicographic.{other_text, same_text}
use Rattle.std.proofs.lemmas.Bool.{false≢true}
use Rattle.std.proofs.lemmas.Option.{get_or_from_slice_get}
use Rattle.pdc_history.specs.Chains.{HavePassed}
use Rattle.pdc_history.proofs.Descent.{pass_on}
use Rattle.pdc_history.proofs.Lookups.{is_among, is_not_among}
use Rattle.pdc_history.proofs.looking_up.has_frame.Goals as goal

pub returns-then-eq : goal.returns-then-eq
returns-then-eq c =
    (λ yes. is_among c.args.frames.now.frames c.in-Some.number c.at.result.now c.args.bytes.now c.at.ensures (same_text c.at.result.now c.args.bytes.now c.if-eq.ensures), λ among. refl)

pub loop-next-preserved : goal.loop-next-preserved
loop-next-preserved c =
    let P : ℕ → Type 0 = λ n. get_or c.args.frames.now.frames n [] ≢ c.args.bytes.now in
    let here : P c.in-Some.number = λ e.
    other_text c.at.result.now c.args.bytes.now c.if-eq.ensures (sym (get_or_from_slice_get c.args.frames.now.frames c.in-Some.number c.at.result.now [] c.at.ensures) ∙ e) in
    pass_on c.args.by_check.now.keys c.bucket_of-bucket.result c.in-Some.number P c.before-next.result
    (subst (HavePassed c.args.by_check.now.keys c.bucket_of-bucket.result P) c.in-Some.is c.loop-next.invariant) here c.before-next.ensures

pub returns : goal.returns
returns c =
    let P : ℕ → Type 0 = λ n. get_or c.args.frames.now.frames n [] ≢ c.args.bytes.now in (
      λ no. absurd (false≢true no),
      λ among. absurd (is_not_among c.args.frames.now.frames c.args.by_check.now.keys c.bucket_of-bucket.result c.args.bytes.now c.requires.keys c.bucket_of-bucket.ensures.bucket
          (subst (HavePassed c.args.by_check.now.keys c.bucket_of-bucket.result P) c.in_default.is c.loop-next.invariant) among),
    )
