use Rattle.std.proofs.Common.{◌≡◌, ℕ, ◌*◌, ◌^◌, List, take, fold, bit_xor, arith, subst, sym, ◌∙◌}
use Rattle.pdc_words.specs.CheckWord.{IsCheckWord, IsRemainder, check_after, check_word_of}
use Rattle.pdc_words.proofs.Polynomials.{IsCheckWord-check_word_of, is_check, one_remainder}
use Rattle.pdc_words.proofs.WordSteps.{first_state, step_at, narrow_state, front_then}
use Rattle.pdc_words.proofs.crc.check_word.Goals as goal

pub returns-clause-value : goal.returns-clause-value
returns-clause-value c =
    let bytes : List ℕ = c.args.bytes.now in
    let first : IsRemainder (bit_xor c.wide_moved_up.result c.read_wide_step.result * 2 ^ 16) (fold check_after 65535 (take 16 bytes)) = subst (λ (w : ℕ). IsRemainder (bit_xor c.wide_moved_up.result w * 2 ^ 16) (fold check_after 65535 (take 16 bytes))) (sym c.read_wide_step.ensures)
    (step_at 16 0x84CF c.wide_moved_up.result 65535 0 bytes (λ i. omega (arith, c.type_inv.bytes i)) (omega arith) first_state c.wide_moved_up.ensures) in
    is_check _ bytes (one_remainder _ _ _ c.check_of_state.ensures (c.after_rest.ensures.step _ (narrow_state _ _ _ c.narrowed.ensures first)) ∙ front_then 65535 16 bytes)

pub returns-clause-remainder : goal.returns-clause-remainder
returns-clause-remainder c =
    let bytes : List ℕ = c.args.bytes.now in
    let first : IsRemainder (bit_xor c.wide_moved_up.result c.read_wide_step.result * 2 ^ 16) (fold check_after 65535 (take 16 bytes)) = subst (λ (w : ℕ). IsRemainder (bit_xor c.wide_moved_up.result w * 2 ^ 16) (fold check_after 65535 (take 16 bytes))) (sym c.read_wide_step.ensures)
    (step_at 16 0x84CF c.wide_moved_up.result 65535 0 bytes (λ i. omega (arith, c.type_inv.bytes i)) (omega arith) first_state c.wide_moved_up.ensures) in
    let value : c.check_of_state.result ≡ check_word_of bytes = is_check _ bytes (one_remainder _ _ _ c.check_of_state.ensures (c.after_rest.ensures.step _ (narrow_state _ _ _ c.narrowed.ensures first)) ∙ front_then 65535 16 bytes) in
    subst (λ (check : ℕ). IsCheckWord bytes check) (sym value) (IsCheckWord-check_word_of bytes (λ i. omega (arith, c.type_inv.bytes i)))
