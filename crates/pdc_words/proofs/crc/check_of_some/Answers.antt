use Rattle.std.proofs.Common.{◌≡◌, ℕ, arith, subst, sym, ◌∙◌}
use Rattle.pdc_words.specs.CheckWord.{IsCheckWord, check_word_of}
use Rattle.pdc_words.proofs.Polynomials.{IsCheckWord-check_word_of, is_check, one_remainder}
use Rattle.pdc_words.proofs.WordSteps.{first_state, narrow_state, front_then}
use Rattle.pdc_words.proofs.crc.check_of_some.Goals as goal

pub returns-clause-value : goal.returns-clause-value
returns-clause-value c = is_check _ c.args.bytes.now
    (one_remainder _ _ _ c.check_of_state.ensures (c.after_rest.ensures.step _ (narrow_state _ _ _ c.narrowed.ensures first_state)) ∙ front_then 65535 0 c.args.bytes.now)

pub returns-clause-remainder : goal.returns-clause-remainder
returns-clause-remainder c =
    let value : c.check_of_state.result ≡ check_word_of c.args.bytes.now = is_check _ c.args.bytes.now
    (one_remainder _ _ _ c.check_of_state.ensures (c.after_rest.ensures.step _ (narrow_state _ _ _ c.narrowed.ensures first_state)) ∙ front_then 65535 0 c.args.bytes.now) in
    subst (λ (check : ℕ). IsCheckWord c.args.bytes.now check) (sym value) (IsCheckWord-check_word_of c.args.bytes.now (λ i. omega (arith, c.type_inv.bytes i)))
