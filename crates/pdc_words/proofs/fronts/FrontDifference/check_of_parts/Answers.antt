use Rattle.std.proofs.Common.{◌≡◌, ◌∙◌, ◌++◌, List, ap₂, arith, length, ℕ}
use Rattle.std.proofs.lemmas.List.{length-append}
use Rattle.pdc_words.specs.Linear.{check_of_difference}
use Rattle.pdc_words.proofs.Cells.{AreBytes-append}
use Rattle.pdc_words.proofs.FrontLemmas.{check_behind_other}
use Rattle.pdc_words.proofs.fronts.FrontDifference.check_of_parts.Goals as goal

pub returns : goal.returns
returns c =
    let header : List ℕ = c.args.header.now in
    let own : List ℕ = c.args.own.now in
    let fits = AreBytes-append header own (λ i. omega (arith, c.fits-header i)) (λ i. omega (arith, c.fits-own i)) in
    let len : length c.args.known.now ≡ length (header ++ own) = omega (arith, c.told-known, c.told-header, c.told-own, length-append header own) in
    check_behind_other c.args.known.now (header ++ own) c.args.rest.now c.args.check c.meet_parts.new.self.checks (λ i. omega (arith, c.fits-known i)) fits (λ i. omega (arith, c.type_inv.rest i)) len c.requires
    (c.meet_parts.new.self.told ∙ ap₂ check_of_difference c.meet_parts.ensures.fronts c.meet_parts.ensures.rest)
