use Rattle.std.proofs.Common.{arith}
use Rattle.pdc_frame.proofs.Seconds.{nearest_of-whole}
use Rattle.pdc_frame.proofs.second.Second.count.Goals as goal

pub returns-then-self-gt0 : goal.returns-then-self-gt0
returns-then-self-gt0 c =
    let self = c.args.self.now in
    nearest_of-whole self.time_base self.rate c.args.slot self.step (omega (arith, self.rate_low)) (self.steps (omega arith))
