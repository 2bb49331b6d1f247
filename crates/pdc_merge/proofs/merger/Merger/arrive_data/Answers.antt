use Rattle.std.proofs.Common.{length, subst, sym, ◌∙◌}
use Rattle.pdc_life.specs.Arrival.{Data}
use Rattle.pdc_life.specs.CoreKind.{OfMerger, Says}
use Rattle.pdc_life.specs.Merger.{merged_answer}
use Rattle.pdc_merge.specs.Merger.{MergerView, StandsFor}
use Rattle.pdc_merge.proofs.InForce.{same_in_force}
use Rattle.pdc_merge.proofs.Lives.{arrives, is_ready, is_whole}
use Rattle.pdc_merge.proofs.merger.Merger.arrive_data.Goals as goal

pub answer_data-outcome-requires-clause-ready : goal.answer_data-outcome-requires-clause-ready
answer_data-outcome-requires-clause-ready g c = is_ready (length c.self.inside.settings.sources.items) c.self.inside.alignment.state c.self.inside.layouts c.self.inside.in_force c.self.invariant

pub invariant_of-self : goal.invariant_of-self
invariant_of-self g c =
    is_whole (length c.self.inside.settings.sources.items) c.self.inside.alignment.state c.answer_data-outcome.new.alignment.state c.self.inside.layouts c.self.inside.layouts
    c.self.inside.in_force c.self.inside.in_force c.answer_data-outcome.ensures.unchanged.sizes
    (is_ready (length c.self.inside.settings.sources.items) c.self.inside.alignment.state c.self.inside.layouts c.self.inside.in_force c.self.invariant).in_place
    (c.self.invariant.known ∙ sym (same_in_force c.self.inside.alignment.state c.answer_data-outcome.new.alignment.state c.self.inside.layouts c.answer_data-outcome.ensures.unchanged.in_force))
    c.self.invariant

pub returns-clause-stands : goal.returns-clause-stands
returns-clause-stands g c h E bytes reads before =
    let m : MergerView = record { settings = c.self.inside.settings; start = c.self.inside.start; state = c.self.inside.alignment.state; layouts = c.self.inside.layouts; counts = c.self.inside.counts; memory = c.self.inside.alignment.memory; disagreements = c.self.inside.alignment.disagreements; popped = c.self.inside.alignment.popped } in
    let arrival = Data c.args.instant c.args.quality c.args.payload.now in
    let stands : StandsFor h E m = subst (λ (n : MergerView). StandsFor h E n) (sym c.self.view_is) before in
    arrives c.lives_are_runs.ensures m h E c.args.stream bytes arrival c.answer_data-outcome.new.alignment.state c.self.inside.layouts c.count.new.self c.answer_data-outcome.new.alignment.memory
    c.answer_data-outcome.new.alignment.disagreements c.answer_data-outcome.new.alignment.popped
    (subst (λ (n : MergerView). Says (OfMerger n.settings) c.args.stream bytes arrival) (sym c.self.view_is) reads) stands
    (c.answer_data-outcome.ensures.stands h E bytes stands.aligned stands.held)
    stands.held
    (λ old. c.count.ensures.life E c.args.stream bytes arrival (merged_answer h E c.args.stream arrival) old (c.answer_data-outcome.ensures.answer h E stands.aligned stands.held))
