use Rattle.std.proofs.Common.{◌≡◌, ◌≤◌, ap, ap₂, subst, sym, ◌∙◌, length, List, ℕ}
use Rattle.std.specs.Prelude.{map, false, ◌∷◌, ◌++◌, []}
use Rattle.pdc_session.specs.Recent.{Kept, RecentView, frame_of, is_old, last_256}
use Rattle.pdc_session.proofs.Kept.{pushed_covered, pushed_rises}
use Rattle.pdc_session.proofs.Recents.{few_last, pushed_frame, view_of}
use Rattle.pdc_session.proofs.recent.Frames.push.Goals as goal

pub invariant_of-self : goal.invariant_of-self
invariant_of-self g c =
    let new : is_old c.self.inside.greatest c.args.instant ≡ false = ap (λ (v : RecentView). is_old v.greatest c.args.instant) c.self.view_is ∙ sym c.is_old.ensures ∙ c.if-is_old.false in
    let kept : map frame_of c.keep_last.new.frames.items ≡ last_256 (map frame_of c.self.inside.ring.items ++ pushed_frame c.args.instant c.in_ok-bytes.bytes.items ∷ []) = c.keep_last.ensures.items in
    record {
      room = c.keep_last.ensures.room;
      rising = pushed_rises c.self.inside.greatest (map frame_of c.self.inside.ring.items) _ _ c.self.invariant.rising c.self.invariant.covered new kept;
      few = subst (λ (fs : List Kept). length fs ≤ 256) (sym kept) (few_last (map frame_of c.self.inside.ring.items ++ pushed_frame c.args.instant c.in_ok-bytes.bytes.items ∷ []));
      covered = pushed_covered c.self.inside.greatest (map frame_of c.self.inside.ring.items) _ _ c.self.invariant.covered new kept;
    }

pub returns-clause-later : goal.returns-clause-later
returns-clause-later g c = λ _.
    ap (view_of c.args.instant)
    (c.keep_last.ensures.items ∙ ap₂ (λ (fs : List Kept) (bytes : List ℕ). last_256 (fs ++ pushed_frame c.args.instant bytes ∷ [])) (ap (λ (v : RecentView). v.frames) c.self.view_is) c.in_ok-bytes.ensures.items)
