use Rattle.std.proofs.Common.{◌∷◌, subst}
use Rattle.pdc_life.specs.Answer.{ToArrive, answered}
use Rattle.pdc_life.specs.Arrival.{Arrival}
use Rattle.pdc_life.specs.CoreKind.{OfMerger, Says}
use Rattle.pdc_life.specs.Merger.{merged_answer}
use Rattle.pdc_merge.specs.Merger.{StandsFor}
use Rattle.pdc_merge.proofs.merger.Merger.arrive_whole.Goals as goal

pub returns-clause-stands : goal.returns-clause-stands
returns-clause-stands g c h E bytes =
    subst (λ (a : Arrival). Says (OfMerger c.args.self.now.settings) c.args.stream bytes a → StandsFor h E c.args.self.now → StandsFor h (answered merged_answer h E (ToArrive c.args.stream bytes a) ∷ E) c.arrive.new.self)
    c.view-arrival.ensures (c.arrive.ensures.stands h E bytes)
