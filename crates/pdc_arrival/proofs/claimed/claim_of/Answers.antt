use Rattle.std.proofs.Common.{◌≡◌, ℕ, refl, subst}
use Rattle.pdc_life.specs.pdc_frame.Claim.{claim_of}
use Rattle.pdc_life.specs.pdc_frame.Frame.{fields_of}
use Rattle.pdc_life.specs.pdc_frame.Instant.{IsInstant}
use Rattle.pdc_life.specs.pdc_frame.declared.frame.Kind.TheVariants.{DataFrame}
use Rattle.pdc_arrival.proofs.Claims.{claimed_reads}
use Rattle.pdc_arrival.proofs.claimed.claim_of.Goals as goal

pub returns : goal.returns
returns c =
    let frame = c.in_ok-frame.frame in
    let kind : frame.kind ≡ DataFrame = c.in-DataFrame.is in
    let tag : IsInstant frame.soc frame.frac c.args.node.now.time_base c.args.settings.now.output.rate c.in_ok-instant.instant =
    subst (λ (rate : ℕ). IsInstant frame.soc frame.frac c.args.node.now.time_base rate c.in_ok-instant.instant) c.from-rate.ensures ((c.in_ok-instant.ensures.instant c.in_ok-instant.instant).0 refl) in
    claimed_reads c.args.settings.now c.args.node.now c.args.bytes.now (fields_of frame) (claim_of c.in_ok-frame.claim) c.in_ok-instant.instant c.in_ok-frame.ensures.claims c.if-frame-node.false kind tag
