use Rattle.std.proofs.Common.{◌<◌, length, subst, sym}
use Rattle.pdc_life.specs.Arrival.{Data}
use Rattle.pdc_life.specs.CoreKind.{OfNode, Says}
use Rattle.pdc_life.specs.Node.{node_answer}
use Rattle.pdc_node.specs.Node.{NodeView, StandsFor}
use Rattle.pdc_node.proofs.Lives.{arrives, same_sizes}
use Rattle.pdc_node.proofs.Passed.{ready}
use Rattle.pdc_node.proofs.node.Node.arrive_data.Goals as goal

pub answer_data-outcome-requires : goal.answer_data-outcome-requires
answer_data-outcome-requires g c =
    let n : NodeView = record { settings = c.self.inside.settings; start = c.self.inside.start; opening = c.self.inside.opening; state = c.self.inside.alignment.state; counts = c.self.inside.counts; memory = c.self.inside.alignment.memory; popped = c.self.inside.alignment.popped } in
    ready n c.args.stream (subst (λ (m : NodeView). c.args.stream < length m.settings.pmus.items) (sym c.self.view_is) c.requires) c.self.invariant

pub invariant_of-self : goal.invariant_of-self
invariant_of-self g c =
    same_sizes (length c.self.inside.settings.pmus.items) 1 c.self.inside.alignment.state c.answer_data-outcome.new.alignment.state c.answer_data-outcome.ensures.unchanged.sizes c.self.invariant

pub returns-clause-stands : goal.returns-clause-stands
returns-clause-stands g c h E bytes reads before =
    let n : NodeView = record { settings = c.self.inside.settings; start = c.self.inside.start; opening = c.self.inside.opening; state = c.self.inside.alignment.state; counts = c.self.inside.counts; memory = c.self.inside.alignment.memory; popped = c.self.inside.alignment.popped } in
    let arrival = Data c.args.instant c.args.quality c.args.payload.now in
    let stands : StandsFor h E n = subst (λ (m : NodeView). StandsFor h E m) (sym c.self.view_is) before in
    arrives c.lives_are_runs.ensures n h E c.args.stream bytes arrival c.answer_data-outcome.new.alignment.state c.count.new.self c.answer_data-outcome.new.alignment.memory c.answer_data-outcome.new.alignment.popped
    (subst (λ (m : NodeView). Says (OfNode m.settings) c.args.stream bytes arrival) (sym c.self.view_is) reads) stands
    (c.answer_data-outcome.ensures.stands h E bytes stands.aligned)
    (λ before. c.count.ensures.life E c.args.stream bytes arrival (node_answer h E c.args.stream arrival) before (c.answer_data-outcome.ensures.answer h E stands.aligned))
