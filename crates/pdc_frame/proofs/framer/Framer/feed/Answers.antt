use Rattle.std.proofs.Common.{◌≡◌, ℕ, List, [], ◌++◌, take, subst, sym, ap, ◌∙◌}
use Rattle.pdc_frame.specs.Stream.{Held, HasTaken, pending_of}
use Rattle.pdc_frame.proofs.Streams.{taken_more}
use Rattle.pdc_frame.proofs.Written.{written_found}
use Rattle.pdc_frame.proofs.framer.Framer.feed.Goals as goal

pub returns-clause-stream : goal.returns-clause-stream
returns-clause-stream g c = λ stream frames h.
    taken_more stream (take c.take_next-taken.result.0 c.args.piece.now) frames (record { bytes = c.self.inside.held.items; step = c.self.inside.step; room = c.self.inside.held.capacity })
    (record { bytes = c.take_next-taken.new.held.items; step = c.take_next-taken.result.1; room = c.take_next-taken.new.held.capacity })
    (subst (λ (held : Held). HasTaken stream frames held) (sym c.self.view_is) h) c.take_next-taken.ensures.bytes c.take_next-taken.ensures.at

pub returns-clause-written : goal.returns-clause-written
returns-clause-written g c = λ f rest none fits piece-is.
    let pending : pending_of c.self.inside.step c.self.inside.held.items ≡ [] = subst (λ (held : Held). pending_of held.step held.bytes ≡ []) (sym c.self.view_is) none in
    written_found f rest c.args.piece.now c.take_next-taken.new.held.items c.take_next-taken.result.0 c.take_next-taken.result.1 fits piece-is c.take_next-taken.ensures.taken
    (c.take_next-taken.ensures.bytes ∙ ap (λ (xs : List ℕ). xs ++ take c.take_next-taken.result.0 c.args.piece.now) pending) c.take_next-taken.ensures.at c.take_next-taken.ensures.more
