use Rattle.std.proofs.Common.{List, ℕ, ◌++◌, sym, ◌∙◌}
use Rattle.std.proofs.lemmas.Grind.{fold-append}
use Rattle.pdc_words.specs.CheckWord.{check_after}
use Rattle.pdc_words.proofs.Polynomials.{is_check, one_remainder}
use Rattle.pdc_words.proofs.WordSteps.{header_state}
use Rattle.pdc_words.proofs.crc_behind.check_word_behind.Goals as goal

pub returns : goal.returns
returns c = λ front fits size is.
    let payload : List ℕ = c.args.payload.now in
    is_check c.check_of_state.result (front ++ payload)
    (one_remainder _ _ _ c.check_of_state.ensures (c.after_any.ensures.step _ (header_state c.args.header front fits size is)) ∙ sym (fold-append check_after 65535 front payload))
