use Rattle.std.proofs.Common.{◌∙◌, ap₂, arith, sym}
use Rattle.pdc_words.specs.Linear.{check_of_difference}
use Rattle.pdc_words.proofs.FrontLemmas.{check_behind_other}
use Rattle.pdc_words.proofs.fronts.FrontDifference.check_of.Goals as goal

pub returns : goal.returns
returns c =
    check_behind_other c.args.known.now c.args.front.now c.args.rest.now c.args.check c.meet.new.self.checks (λ i. omega (arith, c.fits-known i)) (λ i. omega (arith, c.fits-front i)) (λ i. omega (arith, c.type_inv.rest i)) (c.told-known ∙ sym c.told-front) c.requires
    (c.meet.new.self.told ∙ ap₂ check_of_difference c.meet.ensures.fronts c.meet.ensures.rest)
