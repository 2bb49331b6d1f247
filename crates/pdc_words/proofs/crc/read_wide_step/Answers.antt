use Rattle.std.proofs.Common.{◌∙◌, arith}
use Rattle.pdc_words.proofs.WordSteps.{two_words}
use Rattle.pdc_words.proofs.crc.read_wide_step.Goals as goal

pub returns : goal.returns
returns c = two_words c.args.place _ _ c.args.bytes.now (λ i. omega (arith, c.type_inv.bytes i)) c.requires
    (omega (arith, c.from.ensures, c.read_step.type_inv)) (omega (arith, c.from-2.ensures, c.read_step-2.type_inv)) (c.from.ensures ∙ c.read_step.ensures) (c.from-2.ensures ∙ c.read_step-2.ensures)
