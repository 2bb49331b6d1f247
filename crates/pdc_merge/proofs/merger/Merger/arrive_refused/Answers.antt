use Rattle.std.proofs.Common.{refl, subst, sym}
use Rattle.pdc_life.specs.Arrival.{BytesRefused}
use Rattle.pdc_life.specs.CoreKind.{OfMerger, Says}
use Rattle.pdc_life.specs.Merger.{merged_answer}
use Rattle.pdc_merge.specs.Merger.{MergerView, StandsFor}
use Rattle.pdc_merge.proofs.Lives.{arrives}
use Rattle.pdc_merge.proofs.merger.Merger.arrive_refused.Goals as goal

pub returns-clause-stands : goal.returns-clause-stands
returns-clause-stands g c h E stream bytes reads before =
    let m : MergerView = record { settings = c.self.inside.settings; start = c.self.inside.start; state = c.self.inside.alignment.state; layouts = c.self.inside.layouts; counts = c.self.inside.counts; memory = c.self.inside.alignment.memory; disagreements = c.self.inside.alignment.disagreements; popped = c.self.inside.alignment.popped } in
    let arrival = BytesRefused c.args.refusal in
    let stands : StandsFor h E m = subst (λ (n : MergerView). StandsFor h E n) (sym c.self.view_is) before in
    arrives c.lives_are_runs.ensures m h E stream bytes arrival c.self.inside.alignment.state c.self.inside.layouts c.count.new.self c.self.inside.alignment.memory
    c.self.inside.alignment.disagreements c.self.inside.alignment.popped
    (subst (λ (n : MergerView). Says (OfMerger n.settings) stream bytes arrival) (sym c.self.view_is) reads) stands
    (c.others_are_left.ensures h E c.self.inside.alignment.state stream bytes arrival (merged_answer h E stream arrival) stands.aligned refl)
    stands.held
    (λ old. c.count.ensures.life E stream bytes arrival (merged_answer h E stream arrival) old refl)
