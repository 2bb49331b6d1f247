use Rattle.std.proofs.Common.{◌++◌, ◌∙◌, ap, List, option_map, sym, ℕ}
use Rattle.pdc_world.proofs.Names.{ledger_view, pop_answer, row_view, who_of, wire_of_some}
use Rattle.pdc_world.proofs.{Frames.{frames_written, row_most, row_none, same_part}, Made.{published_made}}
use Rattle.pdc_world.proofs.publishes.publish.Goals as goal

pub join-published-requires-clause-most : goal.join-published-requires-clause-most
join-published-requires-clause-most g c =
    row_most c.frames_are_known.ensures (who_of c.args.who) _ _ c.unwrap-row.result c.publish.new.out.items c.requires.some
    (λ h E stands. rw c.unwrap-row.ensures at (c.publish.ensures.answer h E stands))
    (λ h E stands. rw c.unwrap-row.ensures at (c.publish.ensures.bytes h E stands) ∙ ap (λ (xs : List ℕ). xs ++ wire_of_some h.output (pop_answer E)) c.in-Ok.ensures.ready.empty)

pub join-published-requires-clause-of_none : goal.join-published-requires-clause-of_none
join-published-requires-clause-of_none g c =
    row_none c.frames_are_known.ensures (who_of c.args.who) _ _ c.make_room.new.self.sent.settings c.unwrap-row.result c.publish.new.out.items
    (ap (λ l. l.table) c.make_room.ensures.same) c.requires.some
    (λ h E stands. rw c.unwrap-row.ensures at (c.publish.ensures.answer h E stands))
    (λ h E stands. rw c.unwrap-row.ensures at (c.publish.ensures.bytes h E stands) ∙ ap (λ (xs : List ℕ). xs ++ wire_of_some h.output (pop_answer E)) c.in-Ok.ensures.ready.empty)

pub returns-clause-made : goal.returns-clause-made
returns-clause-made g c =
    λ W H part.
    published_made W H c.args.who _ _ (ledger_view c.make_room.new.self) _ (option_map row_view c.unwrap-row.result) _
    (same_part _ _ _ _ _ (ledger_view c.make_room.new.self) c.make_room.ensures.same part)
    (λ h E stands. rw c.unwrap-row.ensures at (c.publish.ensures.answer h E stands))
    (λ h E stands. rw c.unwrap-row.ensures at (c.publish.ensures.mark h E stands))
    (λ h E stands. rw c.unwrap-row.ensures at (c.publish.ensures.stands h E stands))
    c.join-published.ensures.table
    (λ h E stands.
    c.join-published.ensures.frames
    ∙ ap (λ (xs : List (List ℕ)). c.make_room.new.self.sent.frames ++ xs)
    (frames_written (option_map row_view c.unwrap-row.result) c.publish.new.out.items h.output
    (rw c.unwrap-row.ensures at (c.publish.ensures.bytes h E stands) ∙ ap (λ (xs : List ℕ). xs ++ wire_of_some h.output (pop_answer E)) c.in-Ok.ensures.ready.empty
    ∙ ap (wire_of_some h.output) (sym (rw c.unwrap-row.ensures at (c.publish.ensures.answer h E stands))))))
    c.join-published.ensures.published c.join-published.ensures.result
