use Rattle.std.proofs.Common.{◌≡◌, length, subst, sym, true}
use Rattle.pdc_core.specs.Fits.{fits_merger}
use Rattle.pdc_life.specs.CoreKind.{OfMerger, Says}
use Rattle.pdc_life.specs.Merger.{merged_answer}
use Rattle.pdc_arrival.specs.Views.{arrival_view}
use Rattle.pdc_merge.specs.Held.{AreAllInPlace}
use Rattle.pdc_merge.specs.Merger.{MergerView, StandsFor}
use Rattle.pdc_merge.proofs.Lives.{arrives, is_ready, is_whole, same_place}
use Rattle.pdc_merge.proofs.Passed.{passed}
use Rattle.pdc_merge.proofs.merger.MergerCore.arrive.Goals as goal

pub answer-outcome-requires-clause-placed : goal.answer-outcome-requires-clause-placed
answer-outcome-requires-clause-placed g c =
    let m : MergerView = record { settings = c.self.inside.settings; start = c.self.inside.start; state = c.self.inside.alignment.state; layouts = c.self.inside.layouts; counts = c.self.inside.counts; memory = c.self.inside.alignment.memory; disagreements = c.self.inside.alignment.disagreements; popped = c.self.inside.alignment.popped } in
    same_place (length c.self.inside.settings.sources.items) (length c.self.inside.alignment.state.columns) c.args.stream (arrival_view c.args.arrival.now) (sym c.self.invariant.sizes.each_column)
    (passed c.self.inside.settings c.args.stream (arrival_view c.args.arrival.now)
    (subst (λ (n : MergerView). fits_merger n.settings c.args.stream (arrival_view c.args.arrival.now) ≡ true) (sym c.self.view_is) c.requires))

pub answer-outcome-requires-clause-ready : goal.answer-outcome-requires-clause-ready
answer-outcome-requires-clause-ready g c = is_ready (length c.self.inside.settings.sources.items) c.self.inside.alignment.state c.self.inside.layouts c.self.inside.in_force c.self.invariant

pub layouts_in_force-self-inside-requires : goal.layouts_in_force-self-inside-requires
layouts_in_force-self-inside-requires g c = subst (λ n. AreAllInPlace n c.answer-outcome.new.layouts) (sym c.answer-outcome.ensures.unchanged.sizes.each) c.answer-outcome.ensures.in_place

pub invariant_of-self : goal.invariant_of-self
invariant_of-self g c =
    is_whole (length c.self.inside.settings.sources.items) c.self.inside.alignment.state c.answer-outcome.new.alignment.state c.self.inside.layouts c.answer-outcome.new.layouts
    c.self.inside.in_force c.layouts_in_force-self-inside.result c.answer-outcome.ensures.unchanged.sizes c.answer-outcome.ensures.in_place c.layouts_in_force-self-inside.ensures c.self.invariant

pub returns-clause-stands : goal.returns-clause-stands
returns-clause-stands g c h E bytes reads before =
    let m : MergerView = record { settings = c.self.inside.settings; start = c.self.inside.start; state = c.self.inside.alignment.state; layouts = c.self.inside.layouts; counts = c.self.inside.counts; memory = c.self.inside.alignment.memory; disagreements = c.self.inside.alignment.disagreements; popped = c.self.inside.alignment.popped } in
    let arrival = arrival_view c.args.arrival.now in
    let stands : StandsFor h E m = subst (λ (n : MergerView). StandsFor h E n) (sym c.self.view_is) before in
    arrives c.lives_are_runs.ensures m h E c.args.stream bytes arrival c.answer-outcome.new.alignment.state c.answer-outcome.new.layouts c.count.new.self c.answer-outcome.new.alignment.memory
    c.answer-outcome.new.alignment.disagreements c.answer-outcome.new.alignment.popped
    (subst (λ (n : MergerView). Says (OfMerger n.settings) c.args.stream bytes arrival) (sym c.self.view_is) reads) stands
    (c.answer-outcome.ensures.stands h E bytes stands.aligned stands.held)
    (c.answer-outcome.ensures.held h E bytes stands.aligned stands.held)
    (λ old. c.count.ensures.life E c.args.stream bytes arrival (merged_answer h E c.args.stream arrival) old (c.answer-outcome.ensures.answer h E stands.aligned stands.held))
