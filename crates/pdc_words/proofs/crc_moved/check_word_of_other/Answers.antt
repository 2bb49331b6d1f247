use Rattle.std.proofs.Common.{arith, length, ◌∙◌, ap₂, ap}
use Rattle.std.specs.Prelude.{bit_xor}
use Rattle.pdc_words.specs.Linear.{check_moved}
use Rattle.pdc_words.proofs.LinearLemmas.{other_check}
use Rattle.pdc_words.proofs.crc_moved.check_word_of_other.Goals as goal

pub returns : goal.returns
returns c = λ rest fits is_power check-is.
    other_check c.args.front.now c.args.other.now rest c.args.check c.moved_past.result (λ i. omega (arith, c.type_inv.front i)) (λ i. omega (arith, c.type_inv.other i)) fits check-is
    (c.moved_past.ensures (length rest) is_power ∙ ap (check_moved (length rest)) (ap₂ bit_xor c.check_word.ensures.value c.check_word-2.ensures.value))
