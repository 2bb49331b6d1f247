use Rattle.std.proofs.Common.{◌∷◌, ◌∙◌, ap, subst, sym}
use Rattle.pdc_core.specs.KeptArrival.{taken_view}
use Rattle.pdc_life.specs.Answer.{ToArrive, answered}
use Rattle.pdc_life.specs.Arrival.{Arrival}
use Rattle.pdc_life.specs.CoreKind.{OfMerger, Says}
use Rattle.pdc_life.specs.Merger.{merged_answer}
use Rattle.pdc_merge.specs.Merger.{StandsFor}
use Rattle.pdc_merge.proofs.merger.MergerCore.arrive_kept.Goals as goal

pub returns-in-BytesRefused-clause-answer : goal.returns-in-BytesRefused-clause-answer
returns-in-BytesRefused-clause-answer g c h E stands =
    c.arrive_refused.ensures.answer h E c.args.stream stands ∙ ap (λ (a : Arrival). (merged_answer h E c.args.stream a).outcome) (ap taken_view (sym c.in-BytesRefused.is))

pub returns-in-BytesRefused-clause-stands : goal.returns-in-BytesRefused-clause-stands
returns-in-BytesRefused-clause-stands g c h E bytes =
    subst (λ (a : Arrival). Says (OfMerger c.args.self.now.settings) c.args.stream bytes a → StandsFor h E c.args.self.now → StandsFor h (answered merged_answer h E (ToArrive c.args.stream bytes a) ∷ E) c.arrive_refused.new.self)
    (ap taken_view (sym c.in-BytesRefused.is)) (c.arrive_refused.ensures.stands h E c.args.stream bytes)
