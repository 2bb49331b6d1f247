use Rattle.std.proofs.Common.{List, ℕ, subst}
use Rattle.pdc_server.specs.Header.{header_text}
use Rattle.pdc_server.specs.Turn.{HasFailed, IsAnswered, dated_at}
use Rattle.pdc_server.proofs.Layouts.{layout_alone}
use Rattle.pdc_server.proofs.Turns.{few_heard}
use Rattle.pdc_server.proofs.hearing.answer.Goals as goal

pub hear-heard-requires-clause-layout : goal.hear-heard-requires-clause-layout
hear-heard-requires-clause-layout g c = layout_alone g.N.Naming.stream c.in-Ok.stamp c.clear.new.self.items c.layout.new.out.items c.deref.result.now c.in-Ok.ensures.ok c.clear.ensures.items c.deref.ensures.value

pub returns-in-Ok-heard-clause-ok : goal.returns-in-Ok-heard-clause-ok
returns-in-Ok-heard-clause-ok g c =
    let answered : IsAnswered (dated_at g.N.Naming.stream c.args.question.now.soc) c.in-Ok.stamp (header_text c.args.question.now.id.value) c.args.question.now.piece.now c.args.session.now c.hear-heard.new.session c.args.out.now.items c.hear-heard.new.out.items =
    subst (λ (header : List ℕ). IsAnswered (dated_at g.N.Naming.stream c.args.question.now.soc) c.in-Ok.stamp header c.args.question.now.piece.now c.args.session.now c.hear-heard.new.session c.args.out.now.items c.hear-heard.new.out.items) c.header_of-header.ensures c.in-Ok-heard.ensures.ok in
    (answered, few_heard answered.2 c.requires)

pub returns-in-Err-clause-unheard : goal.returns-in-Err-clause-unheard
returns-in-Err-clause-unheard g c = (
  c.in-Ok.stamp,
  subst (λ (header : List ℕ). HasFailed (dated_at g.N.Naming.stream c.args.question.now.soc) c.in-Ok.stamp header c.args.question.now.piece.now c.args.session.now c.hear-heard.new.session c.args.out.now.items c.hear-heard.new.out.items c.in-Err.fault)
      c.header_of-header.ensures c.in-Err.ensures.failed,
)
