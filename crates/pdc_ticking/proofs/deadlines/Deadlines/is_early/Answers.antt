use Rattle.std.proofs.Common.{arith}
use Rattle.pdc_ticking.proofs.SecondDeadline.{early_by_test}
use Rattle.pdc_ticking.proofs.deadlines.Deadlines.is_early.Goals as goal

pub returns : goal.returns
returns c =
    early_by_test c.args.self.now.first c.args.self.now.span c.args.self.now.parts c.args.moment c.args.given c.wait_at-wait.result c.wait_at.result
    c.wait_at-wait.ensures c.wait_at.ensures (omega arith) (omega arith)
