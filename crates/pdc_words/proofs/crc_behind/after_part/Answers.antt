use Rattle.std.proofs.Common.{◌≡◌, ℕ, ◌+◌, ◌-◌, ◌*◌, ◌%◌, ◌^◌, ap, arith, bit_xor, drop, fold, subst, sym, take, ◌∙◌}
use Rattle.std.specs.Int.Bits.{xor_assoc}
use Rattle.pdc_words.specs.CheckWord.{IsRemainder, check_after, polynomial_of}
use Rattle.pdc_words.proofs.WordSteps.{part_moved_up, step_at}
use Rattle.pdc_words.proofs.crc_behind.after_part.Goals as goal

pub returns-clause-step : goal.returns-clause-step
returns-clause-step c = λ check h.
    let at : ℕ = c.args.at in
    let n : ℕ = c.args.count in
    let state : ℕ = c.args.state in
    let low : ℕ = state * 2 ^ (8 * n) % 2 ^ 64 in
    let exact : at + n - at ≡ n = omega arith in
    let word : c.read_few-last.result ≡ polynomial_of (take n (drop at c.args.bytes.now)) =
    c.read_few-last.ensures ∙ ap (λ (m : ℕ). polynomial_of (take m (drop at c.args.bytes.now))) exact in
    let same : bit_xor (bit_xor c.moved_up.result low) (polynomial_of (take n (drop at c.args.bytes.now))) ≡ bit_xor c.moved_up.result (bit_xor low c.read_few-last.result) =
    xor_assoc c.moved_up.result low (polynomial_of (take n (drop at c.args.bytes.now))) ∙ ap (λ (w : ℕ). bit_xor c.moved_up.result (bit_xor low w)) (sym word) in
    subst (λ (s : ℕ). IsRemainder (s * 2 ^ 16) (fold check_after check (take (at + n) c.args.bytes.now))) same
    (step_at n state (bit_xor c.moved_up.result low) check at c.args.bytes.now (λ i. omega (arith, c.type_inv.bytes i)) (omega (arith, c.if-bytes-at.false, c.requires.at)) h
    (part_moved_up state c.moved_up.result (8 * n) (omega (arith, c.requires.few)) c.moved_up.ensures))
