use Rattle.std.proofs.Common.{[], ◌++◌, ◌∙◌, ◌∷◌, ap, List, subst, ℕ}
use Rattle.pdc_world.proofs.Names.{IsOfPmu, layout_wire}
use Rattle.pdc_world.proofs.Frames.{ok_stable, room_for}
use Rattle.pdc_world.proofs.ticks.send_layout.Goals as goal

pub unwrap-requires : goal.unwrap-requires
unwrap-requires g c = ok_stable c.layout_frame.result (λ none. c.requires.frame (λ h E stands fits alone. none (c.layout_frame.ensures.room h E stands (room_for c.args.ledger.now.frame.items (layout_wire h E 0) _ c.requires.ready.empty fits c.requires.ready.most))))

pub send_written-requires-clause-of_none : goal.send_written-requires-clause-of_none
send_written-requires-clause-of_none g c =
    λ p pmu of_pmu. c.requires.frame (λ h E stands fits alone. alone p pmu (subst (λ (x : List ℕ). IsOfPmu c.args.ledger.now.sent.settings p pmu x)
    (rw c.unwrap.ensures at (c.layout_frame.ensures.ok h E stands) ∙ ap (λ (xs : List ℕ). xs ++ layout_wire h E 0) c.requires.ready.empty) of_pmu))

pub returns-clause-frames : goal.returns-clause-frames
returns-clause-frames g c =
    λ h E stands. c.send_written.ensures.frames
    ∙ ap (λ (x : List ℕ). c.args.ledger.now.sent.frames ++ x ∷ []) (rw c.unwrap.ensures at (c.layout_frame.ensures.ok h E stands) ∙ ap (λ (xs : List ℕ). xs ++ layout_wire h E 0) c.requires.ready.empty)
