use Rattle.std.proofs.Common.{◌≡◌, ℕ, subst, sym, arith}
use Rattle.pdc_words.specs.CheckWord.{IsCheckWord, check_word_of}
use Rattle.pdc_words.proofs.Polynomials.{IsCheckWord-check_word_of, is_check, one_remainder}
use Rattle.pdc_words.proofs.WordSteps.{first_state}
use Rattle.pdc_words.proofs.crc.check_of_blocks.Goals as goal

pub returns-clause-value : goal.returns-clause-value
returns-clause-value c = is_check _ c.args.bytes.now
    (one_remainder _ _ _ c.check_of_state.ensures (c.after_wide_steps.ensures.step _ (c.after_blocks-state.ensures.state 65535 first_state)))

pub returns-clause-remainder : goal.returns-clause-remainder
returns-clause-remainder c =
    let value : c.check_of_state.result ≡ check_word_of c.args.bytes.now = is_check _ c.args.bytes.now
    (one_remainder _ _ _ c.check_of_state.ensures (c.after_wide_steps.ensures.step _ (c.after_blocks-state.ensures.state 65535 first_state))) in
    subst (λ (check : ℕ). IsCheckWord c.args.bytes.now check) (sym value) (IsCheckWord-check_word_of c.args.bytes.now (λ i. omega (arith, c.type_inv.bytes i)))
