-- Thirty-two bytes at once: a state of 256 bits, in two halves, by the generator's sixteenth power, x^256 + x^192 + x^80 + 1.
use Rattle.std.proofs.Common.{◌≡◌, ℕ, ◌+◌, ◌*◌, ◌/◌, ◌%◌, ◌^◌, ◌<◌, ◌≤◌, List, ◌++◌, length, take, drop, length-drop, fold, refl, sym, ap, ap₂, subst, ◌∙◌, arith}
use Rattle.std.specs.Int.Bits.{bit_or, bit_xor, xor_zero_l, xor_zero_r, xor_block, xor_shifted, xor_lt}
use Rattle.std.proofs.lemmas.Nat.{or_shifted}
use Rattle.std.proofs.Math.Seq.{take-add}
use Rattle.std.proofs.lemmas.List.{length-take, drop-drop}
use Rattle.pdc_words.specs.Bytes.{AreBytes}
use Rattle.pdc_words.specs.CheckWord.{IsRemainder, IsCongruent, polynomial_of, check_after, high_of_product, times_generator}
use Rattle.pdc_words.proofs.Cells.{AreBytes-take, AreBytes-drop}
use Rattle.pdc_words.proofs.Powers.{congruent_self, congruent_from, congruent_then, congruent_xor, product, product-squared, eighth_power, moved_up_congruent, quotient_found}
use Rattle.pdc_words.proofs.WordSteps.{narrow_state, polynomial_below, polynomial_of-append, step_at}

-- a number of two halves
abbrev pub whole : ℕ → ℕ → ℕ
whole high low = high * 2 ^ 128 + low

whole-xor : (a b c d : ℕ) → b < 2 ^ 128 → d < 2 ^ 128 → bit_xor (whole a b) (whole c d) ≡ whole (bit_xor a c) (bit_xor b d)
whole-xor a b c d b_fits d_fits = xor_block 128 a c b d b_fits d_fits

pub sixteenth_power : (p : ℕ) → product 80 192 256 p ≡ times_generator (times_generator (times_generator (times_generator (product 20 48 64 (product 40 96 128 p)))))
sixteenth_power p = sym (product-squared 40 96 128 p) ∙ eighth_power (product 40 96 128 p)

-- the quotient, in halves
abbrev pub first_half : ℕ → ℕ
first_half high = bit_xor high (high / 2 ^ 64)

abbrev pub second_half : ℕ → ℕ → ℕ
second_half high mixed = bit_xor (bit_xor mixed (bit_or (high * 2 ^ 64 % 2 ^ 128) (mixed / 2 ^ 64))) (high / 2 ^ 48)

long_quotient : (high low mixed : ℕ) → high < 2 ^ 128 → low < 2 ^ 128 → mixed < 2 ^ 128 → mixed ≡ bit_xor low high
    → high_of_product 64 176 256 (whole (first_half high) (second_half high mixed)) ≡ whole high low
long_quotient high low mixed high_fits low_fits mixed_fits mixed-is =
    let s : ℕ = whole high low in
    let s_fits : s < 2 ^ 256 = omega arith in
    let up : s / 2 ^ 128 ≡ whole 0 high = omega arith in
    let half : ℕ = whole high mixed in
    let half-is : bit_xor s (s / 2 ^ 128) ≡ half =
    ap (bit_xor s) up ∙ whole-xor high low 0 high low_fits high_fits ∙ ap₂ whole (xor_zero_r high) (sym mixed-is) in
    let between : ℕ = bit_or (high * 2 ^ 64 % 2 ^ 128) (mixed / 2 ^ 64) in
    let low_bits : high * 2 ^ 64 % 2 ^ 128 ≡ high % 2 ^ 64 * 2 ^ 64 = omega arith in
    let between-is : between ≡ high % 2 ^ 64 * 2 ^ 64 + mixed / 2 ^ 64 =
    ap (λ (x : ℕ). bit_or x (mixed / 2 ^ 64)) low_bits ∙ or_shifted (high % 2 ^ 64) 64 (mixed / 2 ^ 64) (omega arith) in
    let between_fits : between < 2 ^ 128 = omega (arith, between-is) in
    let by_64 : half / 2 ^ 64 ≡ whole (high / 2 ^ 64) between = omega (arith, between-is) in
    let by_176 : half / 2 ^ 176 ≡ whole 0 (high / 2 ^ 48) = omega arith in
    let two : bit_xor half (half / 2 ^ 64) ≡ whole (first_half high) (bit_xor mixed between) =
    ap (bit_xor half) by_64 ∙ whole-xor high mixed (high / 2 ^ 64) between mixed_fits between_fits in
    let three : bit_xor (bit_xor half (half / 2 ^ 64)) (half / 2 ^ 176) ≡ whole (first_half high) (second_half high mixed) =
    ap₂ bit_xor two by_176 ∙ whole-xor (first_half high) (bit_xor mixed between) 0 (high / 2 ^ 48) (xor_lt 128 mixed between mixed_fits between_fits) (omega arith)
    ∙ ap (λ (x : ℕ). whole x (second_half high mixed)) (xor_zero_r (first_half high)) in
    let found : high_of_product 64 176 256 (bit_xor (bit_xor (bit_xor s (s / 2 ^ 128)) (bit_xor s (s / 2 ^ 128) / 2 ^ 64)) (bit_xor s (s / 2 ^ 128) / 2 ^ 176)) ≡ s =
    quotient_found 64 176 256 s s_fits (omega arith) (omega arith) (omega arith) in
    ap (high_of_product 64 176 256) (sym (ap (λ (x : ℕ). bit_xor (bit_xor x (x / 2 ^ 64)) (x / 2 ^ 176)) half-is ∙ three)) ∙ found

-- what is left of a quotient in halves
abbrev pub left_high : ℕ → ℕ → ℕ
left_high first second = bit_xor (second * 2 ^ 64 % 2 ^ 128) (bit_xor (bit_or (first * 2 ^ 80 % 2 ^ 128) (second / 2 ^ 48)) first)

abbrev pub left_low : ℕ → ℕ
left_low second = bit_xor (second * 2 ^ 80 % 2 ^ 128) second

long_left : (first second : ℕ) → second < 2 ^ 128
    → bit_xor (whole first second * 2 ^ 192 % 2 ^ 256) (bit_xor (whole first second * 2 ^ 80 % 2 ^ 256) (whole first second)) ≡ whole (left_high first second) (left_low second)
long_left first second fits =
    let q : ℕ = whole first second in
    let by_192 : q * 2 ^ 192 % 2 ^ 256 ≡ whole (second * 2 ^ 64 % 2 ^ 128) 0 = omega arith in
    let between : ℕ = bit_or (first * 2 ^ 80 % 2 ^ 128) (second / 2 ^ 48) in
    let low_bits : first * 2 ^ 80 % 2 ^ 128 ≡ first % 2 ^ 48 * 2 ^ 80 = omega arith in
    let between-is : between ≡ first % 2 ^ 48 * 2 ^ 80 + second / 2 ^ 48 =
    ap (λ (x : ℕ). bit_or x (second / 2 ^ 48)) low_bits ∙ or_shifted (first % 2 ^ 48) 80 (second / 2 ^ 48) (omega arith) in
    let by_80 : q * 2 ^ 80 % 2 ^ 256 ≡ whole between (second * 2 ^ 80 % 2 ^ 128) = omega (arith, between-is) in
    ap₂ bit_xor by_192 (ap (λ (x : ℕ). bit_xor x q) by_80 ∙ whole-xor between (second * 2 ^ 80 % 2 ^ 128) first second (omega arith) fits)
    ∙ whole-xor (second * 2 ^ 64 % 2 ^ 128) 0 (bit_xor between first) (left_low second) (omega arith) (xor_lt 128 (second * 2 ^ 80 % 2 ^ 128) second (omega arith) fits)
    ∙ ap (whole (left_high first second)) (xor_zero_l (left_low second))

-- a state in halves, moved up by 256 bits
pub long_congruent : (high low : ℕ) → high < 2 ^ 128 → low < 2 ^ 128
    → let mixed : ℕ = bit_xor low high in IsCongruent (whole high low * 2 ^ 256) (whole (left_high (first_half high) (second_half high mixed)) (left_low (second_half high mixed)))
long_congruent high low high_fits low_fits =
    let mixed : ℕ = bit_xor low high in
    let mixed_fits : mixed < 2 ^ 128 = xor_lt 128 low high low_fits high_fits in
    let between : ℕ = bit_or (high * 2 ^ 64 % 2 ^ 128) (mixed / 2 ^ 64) in
    let low_bits : high * 2 ^ 64 % 2 ^ 128 ≡ high % 2 ^ 64 * 2 ^ 64 = omega arith in
    let between-is : between ≡ high % 2 ^ 64 * 2 ^ 64 + mixed / 2 ^ 64 =
    ap (λ (x : ℕ). bit_or x (mixed / 2 ^ 64)) low_bits ∙ or_shifted (high % 2 ^ 64) 64 (mixed / 2 ^ 64) (omega arith) in
    let first : ℕ = first_half high in
    let second : ℕ = second_half high mixed in
    let first_fits : first < 2 ^ 128 = xor_lt 128 high (high / 2 ^ 64) high_fits (omega arith) in
    let second_fits : second < 2 ^ 128 = xor_lt 128 (bit_xor mixed between) (high / 2 ^ 48) (xor_lt 128 mixed between mixed_fits (omega (arith, between-is))) (omega arith) in
    let q : ℕ = whole first second in
    let q_fits : q < 2 ^ 256 = omega arith in
    congruent_then
    (moved_up_congruent 80 192 256 64 176 (whole high low) q (times_generator (times_generator (times_generator (product 20 48 64 (product 40 96 128 q))))) refl refl q_fits
    (long_quotient high low mixed high_fits low_fits mixed_fits refl) (sixteenth_power q))
    (congruent_from (long_left first second second_fits))

pub long_low : (high low : ℕ) → high < 2 ^ 128 → low < 2 ^ 128 → left_low (second_half high (bit_xor low high)) < 2 ^ 128
long_low high low high_fits low_fits =
    let mixed : ℕ = bit_xor low high in
    let mixed_fits : mixed < 2 ^ 128 = xor_lt 128 low high low_fits high_fits in
    let between : ℕ = bit_or (high * 2 ^ 64 % 2 ^ 128) (mixed / 2 ^ 64) in
    let low_bits : high * 2 ^ 64 % 2 ^ 128 ≡ high % 2 ^ 64 * 2 ^ 64 = omega arith in
    let between-is : between ≡ high % 2 ^ 64 * 2 ^ 64 + mixed / 2 ^ 64 =
    ap (λ (x : ℕ). bit_or x (mixed / 2 ^ 64)) low_bits ∙ or_shifted (high % 2 ^ 64) 64 (mixed / 2 ^ 64) (omega arith) in
    let second : ℕ = second_half high mixed in
    let second_fits : second < 2 ^ 128 = xor_lt 128 (bit_xor mixed between) (high / 2 ^ 48) (xor_lt 128 mixed between mixed_fits (omega (arith, between-is))) (omega arith) in
    xor_lt 128 (second * 2 ^ 80 % 2 ^ 128) second (omega arith) second_fits

-- thirty-two bytes are two halves
long_word : (at : ℕ) (bytes : List ℕ) → at + 32 ≤ length bytes
    → polynomial_of (take 32 (drop at bytes)) ≡ whole (polynomial_of (take 16 (drop at bytes))) (polynomial_of (take 16 (drop (at + 16) bytes)))
long_word at bytes le =
    let front : List ℕ = take 16 (drop at bytes) in
    let rest : List ℕ = take 16 (drop (at + 16) bytes) in
    let len : length rest ≡ 16 = omega (arith, length-take 16 (drop (at + 16) bytes), length-drop (at + 16) bytes) in
    let parts : take 32 (drop at bytes) ≡ front ++ rest = take-add 16 16 (drop at bytes) ∙ ap (λ (xs : List ℕ). front ++ take 16 xs) (drop-drop 16 at bytes) in
    ap polynomial_of parts ∙ polynomial_of-append front rest ∙ ap (λ (n : ℕ). polynomial_of front * 2 ^ (8 * n) + polynomial_of rest) len

-- and one step more
pub long_step : (high low up down first second check at : ℕ) (bytes : List ℕ) → AreBytes bytes → at + 32 ≤ length bytes → down < 2 ^ 128
    → first ≡ polynomial_of (take 16 (drop at bytes)) → second ≡ polynomial_of (take 16 (drop (at + 16) bytes))
    → IsRemainder (whole high low * 2 ^ 16) (fold check_after check (take at bytes)) → IsCongruent (whole high low * 2 ^ 256) (whole up down)
    → IsRemainder (whole (bit_xor up first) (bit_xor down second) * 2 ^ 16) (fold check_after check (take (at + 32) bytes))
long_step high low up down first second check at bytes fits le down_fits first-is second-is now step =
    let rest : List ℕ = take 16 (drop (at + 16) bytes) in
    let len : length rest ≡ 16 = omega (arith, length-take 16 (drop (at + 16) bytes), length-drop (at + 16) bytes) in
    let below : polynomial_of rest < 2 ^ (8 * length rest) = polynomial_below rest (AreBytes-take 16 (drop (at + 16) bytes) (AreBytes-drop (at + 16) bytes fits)) in
    let second_fits : polynomial_of rest < 2 ^ 128 = subst (λ (n : ℕ). polynomial_of rest < 2 ^ (8 * n)) len below in
    subst (λ (s : ℕ). IsRemainder (s * 2 ^ 16) (fold check_after check (take (at + 32) bytes)))
    (ap (bit_xor (whole up down)) (long_word at bytes le) ∙ whole-xor up down (polynomial_of (take 16 (drop at bytes))) (polynomial_of rest) down_fits second_fits
    ∙ ap₂ (λ (a b : ℕ). whole (bit_xor up a) (bit_xor down b)) (sym first-is) (sym second-is))
    (step_at 32 (whole high low) (whole up down) check at bytes fits le now step)

-- a state in halves as one of half its bits
pub long_narrowed : (high low next check : ℕ) → low < 2 ^ 128 → IsCongruent (high * 2 ^ 128) next
    → IsRemainder (whole high low * 2 ^ 16) check → IsRemainder (bit_xor next low * 2 ^ 16) check
long_narrowed high low next check low_fits step now =
    let same : whole high low ≡ bit_xor (high * 2 ^ 128) low = sym (xor_shifted high 128 low low_fits) in
    narrow_state (whole high low) (bit_xor next low) check (congruent_then (congruent_from same) (congruent_xor step (congruent_self low))) now
