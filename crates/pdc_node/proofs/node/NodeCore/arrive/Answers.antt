use Rattle.std.proofs.Common.{◌≡◌, length, subst, sym, true}
use Rattle.pdc_core.specs.Fits.{fits_node}
use Rattle.pdc_life.specs.CoreKind.{OfNode, Says}
use Rattle.pdc_life.specs.Node.{node_answer}
use Rattle.pdc_arrival.specs.Views.{arrival_view}
use Rattle.pdc_node.specs.Node.{NodeView, StandsFor}
use Rattle.pdc_node.proofs.Lives.{arrives, same_sizes}
use Rattle.pdc_node.proofs.Passed.{passed_own, passed_ready}
use Rattle.pdc_node.proofs.node.NodeCore.arrive.Goals as goal

pub answer-outcome-requires-clause-ready : goal.answer-outcome-requires-clause-ready
answer-outcome-requires-clause-ready g c =
    let n : NodeView = record { settings = c.self.inside.settings; start = c.self.inside.start; opening = c.self.inside.opening; state = c.self.inside.alignment.state; counts = c.self.inside.counts; memory = c.self.inside.alignment.memory; popped = c.self.inside.alignment.popped } in
    passed_ready n c.args.stream (arrival_view c.args.arrival.now)
    (subst (λ (m : NodeView). fits_node m.settings c.args.stream (arrival_view c.args.arrival.now) ≡ true) (sym c.self.view_is) c.requires) c.self.invariant

pub answer-outcome-requires-clause-own : goal.answer-outcome-requires-clause-own
answer-outcome-requires-clause-own g c = passed_own c.args.self.now.settings c.args.stream (arrival_view c.args.arrival.now) c.requires

pub invariant_of-self : goal.invariant_of-self
invariant_of-self g c =
    same_sizes (length c.self.inside.settings.pmus.items) 1 c.self.inside.alignment.state c.answer-outcome.new.alignment.state c.answer-outcome.ensures.unchanged.sizes c.self.invariant

pub returns-clause-stands : goal.returns-clause-stands
returns-clause-stands g c h E bytes reads before =
    let n : NodeView = record { settings = c.self.inside.settings; start = c.self.inside.start; opening = c.self.inside.opening; state = c.self.inside.alignment.state; counts = c.self.inside.counts; memory = c.self.inside.alignment.memory; popped = c.self.inside.alignment.popped } in
    let arrival = arrival_view c.args.arrival.now in
    let stands : StandsFor h E n = subst (λ (m : NodeView). StandsFor h E m) (sym c.self.view_is) before in
    arrives c.lives_are_runs.ensures n h E c.args.stream bytes arrival c.answer-outcome.new.alignment.state c.count.new.self c.answer-outcome.new.alignment.memory c.answer-outcome.new.alignment.popped
    (subst (λ (m : NodeView). Says (OfNode m.settings) c.args.stream bytes arrival) (sym c.self.view_is) reads) stands
    (c.answer-outcome.ensures.stands h E bytes stands.aligned stands.same_opening)
    (λ before. c.count.ensures.life E c.args.stream bytes arrival (node_answer h E c.args.stream arrival) before (c.answer-outcome.ensures.answer h E stands.aligned stands.same_opening))
