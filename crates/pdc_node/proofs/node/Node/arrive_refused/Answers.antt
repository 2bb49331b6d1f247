use Rattle.std.proofs.Common.{refl, subst, sym}
use Rattle.pdc_life.specs.Arrival.{BytesRefused}
use Rattle.pdc_life.specs.CoreKind.{OfNode, Says}
use Rattle.pdc_life.specs.Node.{node_answer}
use Rattle.pdc_node.specs.Node.{NodeView, StandsFor}
use Rattle.pdc_node.proofs.Lives.{arrives}
use Rattle.pdc_node.proofs.node.Node.arrive_refused.Goals as goal

pub returns-clause-stands : goal.returns-clause-stands
returns-clause-stands g c h E stream bytes reads before =
    let n : NodeView = record { settings = c.self.inside.settings; start = c.self.inside.start; opening = c.self.inside.opening; state = c.self.inside.alignment.state; counts = c.self.inside.counts; memory = c.self.inside.alignment.memory; popped = c.self.inside.alignment.popped } in
    let arrival = BytesRefused c.args.refusal in
    let stands : StandsFor h E n = subst (λ (m : NodeView). StandsFor h E m) (sym c.self.view_is) before in
    arrives c.lives_are_runs.ensures n h E stream bytes arrival c.self.inside.alignment.state c.count.new.self c.self.inside.alignment.memory c.self.inside.alignment.popped
    (subst (λ (m : NodeView). Says (OfNode m.settings) stream bytes arrival) (sym c.self.view_is) reads) stands
    (c.others_are_left.ensures h E c.self.inside.alignment.state stream bytes arrival (node_answer h E stream arrival) stands.aligned refl)
    (λ before. c.count.ensures.life E stream bytes arrival (node_answer h E stream arrival) before refl)
