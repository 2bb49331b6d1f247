use Rattle.std.proofs.Common.{◌≡◌, ◌++◌, ◌∷◌, [], ℕ, List, length, length-append, cond, ap, ap₂, subst, ◌∙◌}
use Rattle.std.specs.Result.{is_ok}
use Rattle.pdc_history.specs.declared.frames.Place.{Place}
use Rattle.pdc_history.specs.SentFrames.{FramesView, frames_in}
use Rattle.pdc_history.proofs.Pieces.{frames_push}
use Rattle.pdc_history.proofs.frames.Frames.push_reserved.Goals as goal

pub returns : goal.returns
returns c =
    let grown : c.extend_from_slice.new.self.items ≡ c.self.inside.bytes.items ++ c.args.bytes.now =
    subst (λ r. c.extend_from_slice.new.self.items ≡ cond (is_ok r) (c.self.inside.bytes.items ++ c.args.bytes.now) c.self.inside.bytes.items) c.unwrap.ensures c.extend_from_slice.ensures.items in
    let place : Place = record { start = c.len-start.result; end = c.len-end.result } in
    ap₂ (λ (B : List ℕ) (P : List Place). frames_in B P) grown c.push_reserved.ensures.items
    ∙ frames_push c.self.inside.bytes.items c.args.bytes.now c.self.inside.places.items place c.self.invariant (c.len-start.ensures ∙ c.self.inside.bytes.ok.0) (c.len-end.ensures ∙ c.extend_from_slice.new.self.ok.0 ∙ ap length grown ∙ length-append c.self.inside.bytes.items c.args.bytes.now)
    ∙ ap (λ (v : FramesView). v.frames ++ c.args.bytes.now ∷ []) c.self.view_is
