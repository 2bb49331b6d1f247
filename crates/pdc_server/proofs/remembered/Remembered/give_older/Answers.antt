use Rattle.std.proofs.Common.{refl, arith}
use Rattle.pdc_server.proofs.Givens.{given}
use Rattle.pdc_server.proofs.Refusals.{given_refused, on_err}
use Rattle.pdc_server.proofs.remembered.Remembered.give_older.Goals as goal

pub returns-clause-ok : goal.returns-clause-ok
returns-clause-ok g c =
    given g.N.Naming.stream c.args.self.now.older_stamp c.args.place _ _ _ c.args.self.now.older.frames c.requires refl c.args.self.now.were_data c.in_ok-got.ensures.bytes c.in_ok-got.ensures.greatest c.in_ok-got.ensures.rising

pub returns-in_err-got-clause-refused : goal.returns-in_err-got-clause-refused
returns-in_err-got-clause-refused g c =
    on_err c.from_residual.result
    (given_refused (g.B.Buffer.refused c.after.new.out) _ _ g.N.Naming.stream c.args.self.now.older_stamp c.args.place.got c.args.self.now.older.frames c.args.self.now.were_data c.in_err-got.ensures.few c.in_err-got.ensures.refused (omega arith))
