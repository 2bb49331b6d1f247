use Rattle.std.proofs.Common.{ap, arith, ◌∙◌, ◌<◌, ◌^◌}
use Rattle.pdc_align.specs.Align.{State}
use Rattle.pdc_align.proofs.Ticks.{tick_follows, tick_told}
use Rattle.pdc_align.proofs.alignment.Alignment.tick.Goals as goal

pub returns-clause-answer : goal.returns-clause-answer
returns-clause-answer g c life E stands =
    let fits : life.wait < 2 ^ 64 = omega (arith, c.step.ensures.wait, ap (λ (a : State). a.wait) stands.same) in
    c.step.ensures.answer ∙ tick_told life E c.args.self.now.state c.args.now c.args.counts.now stands (c.rows_are_those.ensures life E c.args.now fits)

pub returns-clause-stands : goal.returns-clause-stands
returns-clause-stands g c life E stands =
    let fits : life.wait < 2 ^ 64 = omega (arith, c.step.ensures.wait, ap (λ (a : State). a.wait) stands.same) in
    tick_follows life E c.args.self.now.state c.step.new.self.state c.args.now c.args.counts.now c.step.ensures.state stands
    (c.tick_is_tick.ensures life E c.args.now c.args.counts.now fits)
