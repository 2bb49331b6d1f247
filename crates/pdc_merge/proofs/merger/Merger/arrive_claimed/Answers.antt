use Rattle.std.proofs.Common.{◌≡◌, ◌∷◌, ◌∙◌, ap, false, subst, sym, true}
use Rattle.pdc_frame.specs.Claim.{claim_of, is_right}
use Rattle.pdc_life.specs.Answer.{ToArrive, answered}
use Rattle.pdc_frame.specs.declared.fault.FrameFault.TheVariants.{BadCheck}
use Rattle.pdc_life.specs.Arrival.{Arrival, BytesRefused, Data}
use Rattle.pdc_life.specs.declared.outcome.Refusal.TheVariants.{NoFrame}
use Rattle.pdc_life.specs.CoreKind.{OfMerger, Says}
use Rattle.pdc_life.specs.Merger.{merged_answer}
use Rattle.pdc_merge.specs.Merger.{MergerView, StandsFor}
use Rattle.pdc_merge.proofs.Claims.{where_right, where_wrong}
use Rattle.pdc_merge.proofs.merger.Merger.arrive_claimed.Goals as goal

pub returns-then-seen-clause-stands : goal.returns-then-seen-clause-stands
returns-then-seen-clause-stands g c h E bytes =
    let right : is_right (claim_of c.args.claim.now) c.args.payload.now ≡ true = sym c.check-seen.ensures.right ∙ c.if-seen.true in
    subst (λ (a : Arrival). Says (OfMerger c.args.self.now.settings) c.args.stream bytes a → StandsFor h E c.args.self.now → StandsFor h (answered merged_answer h E (ToArrive c.args.stream bytes a) ∷ E) c.arrive_data.new.self)
    (where_right c.args.instant c.args.quality c.args.payload.now (claim_of c.args.claim.now) right)
    (subst (λ (m : MergerView). Says (OfMerger m.settings) c.args.stream bytes (Data c.args.instant c.args.quality c.args.payload.now) → StandsFor h E m → StandsFor h (answered merged_answer h E (ToArrive c.args.stream bytes (Data c.args.instant c.args.quality c.args.payload.now)) ∷ E) c.arrive_data.new.self)
    c.check-seen.ensures.same (c.arrive_data.ensures.stands h E bytes))

pub returns-else-seen-clause-answer : goal.returns-else-seen-clause-answer
returns-else-seen-clause-answer g c h E stands =
    let wrong : is_right (claim_of c.args.claim.now) c.args.payload.now ≡ false = sym c.check-seen.ensures.right ∙ c.if-seen.false in
    c.arrive_refused.ensures.answer h E c.args.stream (subst (λ (m : MergerView). StandsFor h E m) (sym c.check-seen.ensures.same) stands)
    ∙ ap (λ (a : Arrival). (merged_answer h E c.args.stream a).outcome) (where_wrong c.args.instant c.args.quality c.args.payload.now (claim_of c.args.claim.now) wrong)

pub returns-else-seen-clause-stands : goal.returns-else-seen-clause-stands
returns-else-seen-clause-stands g c h E bytes =
    let wrong : is_right (claim_of c.args.claim.now) c.args.payload.now ≡ false = sym c.check-seen.ensures.right ∙ c.if-seen.false in
    subst (λ (a : Arrival). Says (OfMerger c.args.self.now.settings) c.args.stream bytes a → StandsFor h E c.args.self.now → StandsFor h (answered merged_answer h E (ToArrive c.args.stream bytes a) ∷ E) c.arrive_refused.new.self)
    (where_wrong c.args.instant c.args.quality c.args.payload.now (claim_of c.args.claim.now) wrong)
    (subst (λ (m : MergerView). Says (OfMerger m.settings) c.args.stream bytes (BytesRefused (NoFrame BadCheck)) → StandsFor h E m → StandsFor h (answered merged_answer h E (ToArrive c.args.stream bytes (BytesRefused (NoFrame BadCheck))) ∷ E) c.arrive_refused.new.self)
    c.check-seen.ensures.same (c.arrive_refused.ensures.stands h E c.args.stream bytes))
