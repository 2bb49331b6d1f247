use Rattle.std.proofs.Common.{◌∷◌, Option, option_map, subst, sym}
use Rattle.pdc_core.specs.KeptArrival.{data_view}
use Rattle.pdc_frame.specs.Claim.{claim_of}
use Rattle.pdc_frame.specs.declared.claim.LentClaim.{LentClaim}
use Rattle.pdc_life.specs.Answer.{ToArrive, answered}
use Rattle.pdc_life.specs.CoreKind.{OfMerger, Says}
use Rattle.pdc_life.specs.Merger.{merged_answer}
use Rattle.pdc_merge.specs.Merger.{StandsFor}
use Rattle.pdc_merge.proofs.merger.Merger.arrive_read.Goals as goal

pub returns-in-None-clause-stands : goal.returns-in-None-clause-stands
returns-in-None-clause-stands g c h E bytes =
    subst (λ (o : Option LentClaim). Says (OfMerger c.args.self.now.settings) c.args.stream bytes (data_view c.args.instant c.args.quality c.args.payload.now (option_map claim_of o)) → StandsFor h E c.args.self.now
    → StandsFor h (answered merged_answer h E (ToArrive c.args.stream bytes (data_view c.args.instant c.args.quality c.args.payload.now (option_map claim_of o))) ∷ E) c.arrive_data.new.self)
    (sym c.in-None.is) (c.arrive_data.ensures.stands h E bytes)

pub returns-in-Some-clause-stands : goal.returns-in-Some-clause-stands
returns-in-Some-clause-stands g c h E bytes =
    subst (λ (o : Option LentClaim). Says (OfMerger c.args.self.now.settings) c.args.stream bytes (data_view c.args.instant c.args.quality c.args.payload.now (option_map claim_of o)) → StandsFor h E c.args.self.now
    → StandsFor h (answered merged_answer h E (ToArrive c.args.stream bytes (data_view c.args.instant c.args.quality c.args.payload.now (option_map claim_of o))) ∷ E) c.arrive_claimed.new.self)
    (sym c.in-Some.is) (c.arrive_claimed.ensures.stands h E bytes)
