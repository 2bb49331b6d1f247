use Rattle.std.proofs.Common.{rules, arith}
use Rattle.pdc_ticking.proofs.Due.{before_first, behind_first_by}
use Rattle.pdc_ticking.proofs.deadlines.Deadlines.wait_at.Goals as goal

pub returns-then-moment-self : goal.returns-then-moment-self
returns-then-moment-self c = before_first c.args.self.now.first c.args.self.now.span c.args.self.now.parts c.args.moment (search rules) (search rules)

pub returns : goal.returns
returns c =
    behind_first_by c.args.self.now.first c.args.self.now.span c.args.self.now.parts c.args.moment c.from.result c.from-2.result c.from-3.result c.from-parts.result
    (search rules) (search rules) (search rules) (search rules) (search rules) (search rules) (search (rules, arith))
