use Rattle.std.proofs.Common.{◌≡◌, Some, None, refl, sym, ap, subst, ◌∙◌}
use Rattle.pdc_session.specs.Session.{HasRoom, SessionView}
use Rattle.pdc_session.specs.Served.{HasServed}
use Rattle.pdc_session.proofs.Hearing.{lacks_none}
use Rattle.pdc_session.proofs.Served.{Ends, served_more, view}
use Rattle.pdc_session.proofs.session.Session.feed.Goals as goal

pub returns-in-Err-clause-stream : goal.returns-in-Err-clause-stream
returns-in-Err-clause-stream g c = λ stream base h.
    let begun : view c.self.inside.id.value c.self.inside.framer c.self.inside.told None ≡ c.args.self.now = ap (view c.self.inside.id.value c.self.inside.framer c.self.inside.told) (sym c.in_default.is) ∙ c.self.view_is in
    served_more c.streams_split_in_one_way.ensures.framer c.self.inside.id.value c.args.serving.now c.args.piece.now stream base c.self.inside.framer c.hear-answer.new.framer c.self.inside.told c.hear-answer.new.told
    (g.B.Buffer.content c.args.out.now) (g.B.Buffer.content c.hear-answer.new.out) (g.B.Buffer.capacity c.hear-answer.new.out) (g.B.Buffer.refused c.hear-answer.new.out) c.hear-answer.result (Some c.in-Err.fault)
    (subst (λ r. Ends r (Some c.in-Err.fault)) (sym c.in-Err.is) refl)
    c.hear-answer.ensures.good c.hear-answer.ensures.ok c.hear-answer.ensures.bad c.hear-answer.ensures.memory
    (subst (λ (v : SessionView). HasServed c.args.serving.now stream base v (g.B.Buffer.content c.args.out.now)) (sym begun) h)

pub returns-in_default-answer-clause-stream : goal.returns-in_default-answer-clause-stream
returns-in_default-answer-clause-stream g c = λ stream base h.
    let begun : view c.self.inside.id.value c.self.inside.framer c.self.inside.told None ≡ c.args.self.now = ap (view c.self.inside.id.value c.self.inside.framer c.self.inside.told) (sym c.in_default.is) ∙ c.self.view_is in
    served_more c.streams_split_in_one_way.ensures.framer c.self.inside.id.value c.args.serving.now c.args.piece.now stream base c.self.inside.framer c.hear-answer.new.framer c.self.inside.told c.hear-answer.new.told
    (g.B.Buffer.content c.args.out.now) (g.B.Buffer.content c.hear-answer.new.out) (g.B.Buffer.capacity c.hear-answer.new.out) (g.B.Buffer.refused c.hear-answer.new.out) c.hear-answer.result c.self.inside.ended
    (subst (λ r. Ends r c.self.inside.ended) (sym c.in_default-answer.is) c.in_default.is)
    c.hear-answer.ensures.good c.hear-answer.ensures.ok c.hear-answer.ensures.bad c.hear-answer.ensures.memory
    (subst (λ (v : SessionView). HasServed c.args.serving.now stream base v (g.B.Buffer.content c.args.out.now)) (sym begun) h)

pub returns-in-Err-clause-room : goal.returns-in-Err-clause-room
returns-in-Err-clause-room g c = λ _ has none.
    let lacking = c.hear-answer.ensures.memory (c.in-Err.is ∙ none) in
    lacks_none c.self.inside.id.value c.args.serving.now c.args.piece.now lacking.0 c.self.inside.framer c.hear-answer.new.framer c.self.inside.told c.hear-answer.new.told
    (g.B.Buffer.content c.args.out.now) (g.B.Buffer.content c.hear-answer.new.out) (g.B.Buffer.capacity c.args.out.now) (g.B.Buffer.capacity c.hear-answer.new.out) (g.B.Buffer.refused c.hear-answer.new.out) lacking.1 lacking.2 c.hear-answer.ensures.in_place
    (subst (λ (v : SessionView). HasRoom v.id c.args.serving.now c.args.piece.now v.held v.told (g.B.Buffer.content c.args.out.now) (g.B.Buffer.capacity c.args.out.now)) (sym c.self.view_is) has)
