use Rattle.std.proofs.Common.{refl}
use Rattle.pdc_server.specs.Turn.{dated_at}
use Rattle.pdc_server.proofs.Turns.{of_err, unheard_made}
use Rattle.pdc_server.proofs.consumer.Consumer.make.Goals as goal

pub returns-in_err-stamp-clause-err : goal.returns-in_err-stamp-clause-err
returns-in_err-stamp-clause-err g c =
    of_err _ c.from_residual.result c.in_err-stamp.field-0.0 c.from_residual.ensures.1
    (unheard_made c.in_err-stamp.field-0.0 (dated_at g.N.Naming.stream c.args.soc) c.args.self.now.id.value c.args.self.now.piece.items c.deref.result.now c.args.count _ _ c.clear.new.self.items c.answer.new.out.items
    c.deref.ensures.value c.clear.ensures.items refl c.in_err-stamp.ensures.unheard)
