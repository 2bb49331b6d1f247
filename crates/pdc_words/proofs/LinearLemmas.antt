-- The check word is linear, and a difference in front is moved past the rest by a power of x.
use Rattle.std.proofs.Common.{◌≡◌, ℕ, zero, suc, ◌+◌, ◌-◌, ◌*◌, ◌/◌, ◌%◌, ◌^◌, ◌<◌, ◌≤◌, List, [], ◌∷◌, ◌++◌, length, fold, refl, sym, ap, ap₂, subst, ◌∙◌, arith}
use Rattle.std.specs.Int.{w16, to_be_bytes}
use Rattle.std.specs.Int.Bits.{bit_xor, xor_assoc, xor_self, xor_zero_r, xor_zero_l, xor_shifted, xor_lt}
use Rattle.std.proofs.lemmas.Nat.{pow-add, shr-shr}
use Rattle.std.proofs.Math.Pow.{pow_mono}
use Rattle.std.proofs.Math.Nat.{pow-suc}
use Rattle.std.proofs.lemmas.Grind.{fold-append}
use Rattle.pdc_words.specs.Bytes.{AreBytes}
use Rattle.pdc_words.specs.CheckWord.{IsRemainder, IsCongruent, IsCheckWord, polynomial_of, check_after, check_word_of}
use Rattle.pdc_words.specs.Linear.{check_moved, IsPower}
use Rattle.pdc_words.proofs.Cells.{word_cells, word_bytes}
use Rattle.pdc_words.proofs.Polynomials.{swap_middle, xor-shl, byte_division, one_remainder, IsCheckWord-check_word_of}
use Rattle.pdc_words.proofs.Powers.{congruent_from, congruent_then, congruent_back, congruent_shl, congruent_xor, congruent_remainder, remainder_congruent, shl-swap, shl-twice}
use Rattle.pdc_words.proofs.WordSteps.{bytes_congruent, part_moved_up}

pub remainder_xor : {p q a b : ℕ} → IsRemainder p a → IsRemainder q b → IsRemainder (bit_xor p q) (bit_xor a b)
remainder_xor {p} {q} {a} {b} h k =
    let c : IsCongruent (bit_xor p q) (bit_xor a b) = congruent_xor (remainder_congruent h) (remainder_congruent k) in
    record { quotient = c.quotient; division = c.division; small = xor_lt 16 a b h.small k.small }

pub remainder_from : {p q r : ℕ} → p ≡ q → IsRemainder q r → IsRemainder p r
remainder_from e h = congruent_remainder (congruent_from e) h

pub moved_remainder : (count check : ℕ) → check < 2 ^ 16 → IsRemainder (check * 2 ^ (8 * count)) (check_moved count check)
moved_remainder zero check lt =
    record {
      quotient = 0;
      division = let e : check * 2 ^ (8 * 0) ≡ check = omega arith in rw e (sym (xor_zero_l check));
      small = lt;
    }
moved_remainder (suc count) check lt =
    let n : ℕ = 8 * count in
    let one : IsRemainder (bit_xor (check * 2 ^ 8) (0 * 2 ^ 16)) (check_after check 0) = byte_division check 0 lt (omega arith) in
    let alone : check * 2 ^ 8 ≡ bit_xor (check * 2 ^ 8) (0 * 2 ^ 16) = sym (xor_zero_r (check * 2 ^ 8)) in
    let up : IsCongruent (check * 2 ^ 8) (check_after check 0) = congruent_then (congruent_from alone) (remainder_congruent one) in
    let len : 8 * suc count ≡ 8 + n = omega arith in
    let wide : 2 ^ (8 + n) ≡ 2 ^ 8 * 2 ^ n = pow-add 2 8 n in
    let first : check * 2 ^ (8 * suc count) ≡ check * 2 ^ 8 * 2 ^ n = rw (len, wide) (omega arith) in
    congruent_remainder (congruent_then (congruent_from first) (congruent_shl n up)) (moved_remainder count (check_after check 0) one.small)

pub moved_sum : (count a b : ℕ) → a < 2 ^ 16 → b < 2 ^ 16 → check_moved count (bit_xor a b) ≡ bit_xor (check_moved count a) (check_moved count b)
moved_sum count a b ha hb =
    one_remainder _ _ _ (moved_remainder count (bit_xor a b) (xor_lt 16 a b ha hb))
    (remainder_from (sym (xor-shl a b (8 * count))) (remainder_xor (moved_remainder count a ha) (moved_remainder count b hb)))

pub moved_twice : (count more check : ℕ) → check_moved more (check_moved count check) ≡ check_moved (count + more) check
moved_twice zero more check = let e : 0 + more ≡ more = omega arith in rw e refl
moved_twice (suc count) more check = let e : suc count + more ≡ suc (count + more) = omega arith in rw e (moved_twice count more (check_after check 0))

-- a sum with the same term twice
pub common_gone : (a b k : ℕ) → bit_xor (bit_xor a k) (bit_xor b k) ≡ bit_xor a b
common_gone a b k = swap_middle a k b k ∙ ap (bit_xor (bit_xor a b)) (xor_self k) ∙ xor_zero_r (bit_xor a b)

pub common_gone_front : (k a b : ℕ) → bit_xor (bit_xor k a) (bit_xor k b) ≡ bit_xor a b
common_gone_front k a b = swap_middle k a k b ∙ ap (λ (x : ℕ). bit_xor x (bit_xor a b)) (xor_self k) ∙ xor_zero_l (bit_xor a b)

pub checks_differ : (bytes other : List ℕ) → AreBytes bytes → AreBytes other → length bytes ≡ length other
    → IsRemainder (bit_xor (polynomial_of bytes) (polynomial_of other) * 2 ^ 16) (bit_xor (check_word_of bytes) (check_word_of other))
checks_differ bytes other fits other_fits len =
    let p : ℕ = polynomial_of bytes * 2 ^ 16 in
    let q : ℕ = polynomial_of other * 2 ^ 16 in
    let k : ℕ = 65535 * 2 ^ (8 * length bytes) in
    let first : IsRemainder (bit_xor p k) (check_word_of bytes) = IsCheckWord-check_word_of bytes fits in
    let second : IsRemainder (bit_xor q k) (check_word_of other) =
    subst (λ (n : ℕ). IsRemainder (bit_xor q (65535 * 2 ^ (8 * n))) (check_word_of other)) (sym len) (IsCheckWord-check_word_of other other_fits) in
    remainder_from (sym (common_gone p q k ∙ xor-shl (polynomial_of bytes) (polynomial_of other) 16)) (remainder_xor first second)

-- the bytes behind a front
pub behind_front : (front rest : List ℕ) → check_word_of (front ++ rest) ≡ fold check_after (check_word_of front) rest
unfolding check_word_of
behind_front front rest = fold-append check_after 65535 front rest

pub check_fits : (bytes : List ℕ) → AreBytes bytes → check_word_of bytes < 2 ^ 16
check_fits bytes fits = let h : IsCheckWord bytes (check_word_of bytes) = IsCheckWord-check_word_of bytes fits in h.small

-- the same bytes behind two check words
pub same_rest : (a b : ℕ) (rest : List ℕ) → AreBytes rest → a < 2 ^ 16 → b < 2 ^ 16
    → bit_xor (fold check_after a rest) (fold check_after b rest) ≡ check_moved (length rest) (bit_xor a b)
same_rest a b rest fits ha hb =
    let n : ℕ = 8 * length rest in
    let p : ℕ = polynomial_of rest * 2 ^ 16 in
    one_remainder _ _ _
    (remainder_from (sym (common_gone (a * 2 ^ n) (b * 2 ^ n) p ∙ xor-shl a b n)) (remainder_xor (bytes_congruent rest a fits ha) (bytes_congruent rest b fits hb)))
    (moved_remainder (length rest) (bit_xor a b) (xor_lt 16 a b ha hb))

pub front_differs : (front other rest : List ℕ) → AreBytes front → AreBytes other → AreBytes rest
    → bit_xor (check_word_of (front ++ rest)) (check_word_of (other ++ rest)) ≡ check_moved (length rest) (bit_xor (check_word_of front) (check_word_of other))
front_differs front other rest fits other_fits rest_fits =
    ap₂ bit_xor (behind_front front rest) (behind_front other rest) ∙ same_rest (check_word_of front) (check_word_of other) rest rest_fits (check_fits front fits) (check_fits other other_fits)

-- a word's bytes are the word
word_polynomial : (n : ℕ) → n < 2 ^ 16 → polynomial_of (to_be_bytes w16 n) ≡ n
word_polynomial n fits =
    let cells : to_be_bytes w16 n ≡ n / 256 ∷ n % 256 ∷ [] = word_cells n (n / 256) (n % 256) (omega arith) (omega arith) (omega arith) in
    ap polynomial_of cells ∙ (omega arith)

word_length : (n : ℕ) → n < 2 ^ 16 → length (to_be_bytes w16 n) ≡ 2
word_length n fits = ap length (word_cells n (n / 256) (n % 256) (omega arith) (omega arith) (omega arith))

word_remainder : (check n : ℕ) → check < 2 ^ 16 → n < 2 ^ 16 → IsRemainder (bit_xor (check * 2 ^ 16) (n * 2 ^ 16)) (fold check_after check (to_be_bytes w16 n))
word_remainder check n check_fits fits =
    subst (λ (m : ℕ). IsRemainder (bit_xor (check * 2 ^ (8 * m)) (n * 2 ^ 16)) (fold check_after check (to_be_bytes w16 n))) (word_length n fits)
    (subst (λ (p : ℕ). IsRemainder (bit_xor (check * 2 ^ (8 * length (to_be_bytes w16 n))) (p * 2 ^ 16)) (fold check_after check (to_be_bytes w16 n))) (word_polynomial n fits)
    (bytes_congruent (to_be_bytes w16 n) check (word_bytes n) check_fits))

pub word_differs : (front rest : List ℕ) (a b : ℕ) → AreBytes front → AreBytes rest → a < 2 ^ 16 → b < 2 ^ 16
    → bit_xor (check_word_of (front ++ (to_be_bytes w16 a ++ rest))) (check_word_of (front ++ (to_be_bytes w16 b ++ rest))) ≡ check_moved (2 + length rest) (bit_xor a b)
word_differs front rest a b fits rest_fits ha hb =
    let check : ℕ = check_word_of front in
    let check_lt : check < 2 ^ 16 = check_fits front fits in
    let one : IsRemainder (bit_xor (check * 2 ^ 16) (a * 2 ^ 16)) (fold check_after check (to_be_bytes w16 a)) = word_remainder check a check_lt ha in
    let two : IsRemainder (bit_xor (check * 2 ^ 16) (b * 2 ^ 16)) (fold check_after check (to_be_bytes w16 b)) = word_remainder check b check_lt hb in
    let both : bit_xor (fold check_after check (to_be_bytes w16 a)) (fold check_after check (to_be_bytes w16 b)) ≡ check_moved 2 (bit_xor a b) =
    one_remainder _ _ _
    (remainder_from (sym (common_gone_front (check * 2 ^ 16) (a * 2 ^ 16) (b * 2 ^ 16) ∙ xor-shl a b 16)) (remainder_xor one two))
    (moved_remainder 2 (bit_xor a b) (xor_lt 16 a b ha hb)) in
    let behind : (n : ℕ) → check_word_of (front ++ (to_be_bytes w16 n ++ rest)) ≡ fold check_after (fold check_after check (to_be_bytes w16 n)) rest = λ n.
    behind_front front (to_be_bytes w16 n ++ rest) ∙ fold-append check_after check (to_be_bytes w16 n) rest in
    ap₂ bit_xor (behind a) (behind b) ∙ same_rest _ _ rest rest_fits one.small two.small
    ∙ ap (check_moved (length rest)) both ∙ moved_twice 2 (length rest) (bit_xor a b)

-- ---- a power

pub power_first : (count : ℕ) → IsCongruent (0x6128 * 2 ^ 32) (2 ^ (8 * (count - count)))
power_first count =
    let none : 8 * (count - count) ≡ 0 = omega arith in
    rw none (record { quotient = 1733399585; division = refl })

pub power_step : (m state next count left : ℕ) → m ≤ left → left ≤ count → IsCongruent (state * 2 ^ 32) (2 ^ (8 * (count - left))) → IsCongruent (state * 2 ^ (8 * m)) next
    → IsCongruent (next * 2 ^ 32) (2 ^ (8 * (count - (left - m))))
power_step m state next count left le fits now step =
    let len : 8 * (count - (left - m)) ≡ 8 * (count - left) + 8 * m = omega arith in
    let wide : 2 ^ (8 * (count - (left - m))) ≡ 2 ^ (8 * (count - left)) * 2 ^ (8 * m) = ap (λ (k : ℕ). 2 ^ k) len ∙ pow-add 2 (8 * (count - left)) (8 * m) in
    congruent_then (congruent_shl 32 (congruent_back step))
    (congruent_then (congruent_from (shl-swap (8 * m) 32 state)) (congruent_then (congruent_shl (8 * m) now) (congruent_from (sym wide))))

pub power_byte : (state up count left : ℕ) → 1 ≤ left → left ≤ count → IsCongruent (state * 2 ^ 32) (2 ^ (8 * (count - left))) → IsCongruent (state / 2 ^ 56 * 2 ^ 64) up
    → IsCongruent (bit_xor up (state * 2 ^ 8 % 2 ^ 64) * 2 ^ 32) (2 ^ (8 * (count - (left - 1))))
power_byte state up count left le fits now step = power_step 1 state _ count left le fits now (part_moved_up state up 8 (omega arith) step)

pub power_last : (state power count left : ℕ) → left ≡ 0 → IsCongruent (state * 2 ^ 32) (2 ^ (8 * (count - left))) → IsRemainder (state * 2 ^ 16) power → IsPower count power
power_last state power count left none now last =
    let len : 8 * (count - left) ≡ 8 * count = omega arith in
    congruent_then (congruent_shl 16 (congruent_back (remainder_congruent last)))
    (congruent_then (congruent_from (shl-twice 16 state)) (congruent_then now (congruent_from (ap (λ (k : ℕ). 2 ^ k) len))))

-- ---- a difference times a power, bit by bit

bit_congruent : (b count power : ℕ) → b < 2 → IsPower count power → IsCongruent (b * power * 2 ^ 16) (b * 2 ^ (8 * count))
bit_congruent zero count power lt h = congruent_from (omega arith)
bit_congruent (suc zero) count power lt h = congruent_then (congruent_from (omega arith)) (congruent_then h (congruent_from (omega arith)))
bit_congruent (suc (suc b)) count power lt h = absurd (omega (arith, lt))

bit_below : (b power : ℕ) → b < 2 → b * power ≤ power
bit_below zero power lt = omega arith
bit_below (suc zero) power lt = omega arith
bit_below (suc (suc b)) power lt = absurd (omega (arith, lt))

-- what is known of the product of a difference's bits from this place on
abbrev pub IsProduct : ℕ → ℕ → ℕ → ℕ → Type 0
IsProduct difference power product at =
    (product < 2 ^ (32 - at)) × ((count : ℕ) → IsPower count power → IsCongruent (product * 2 ^ 16) (difference / 2 ^ at * 2 ^ (8 * count)))

pub product_first : (difference power : ℕ) → difference < 2 ^ 16 → IsProduct difference power 0 16
product_first difference power fits =
    let none : difference / 2 ^ 16 ≡ 0 = omega arith in
    ((omega arith), λ count h. let e : 0 * 2 ^ 16 ≡ difference / 2 ^ 16 * 2 ^ (8 * count) = rw none (omega arith) in congruent_from e)

pub product_step : (difference power product at term : ℕ) → 0 < at → at ≤ 16 → power < 2 ^ 16 → term ≡ difference / 2 ^ (at - 1) % 2 * power
    → IsProduct difference power product at → IsProduct difference power (bit_xor (product * 2 % 2 ^ 64) term) (at - 1)
product_step difference power product at term some fits power_fits term-is now =
    let d : ℕ = difference / 2 ^ (at - 1) in
    let b : ℕ = d % 2 in
    let b_fits : b < 2 = omega arith in
    let high : ℕ = difference / 2 ^ at in
    let next : at - 1 + 1 ≡ at = omega arith in
    let half : d / 2 ≡ high = shr-shr difference (at - 1) 1 ∙ ap (λ (k : ℕ). difference / 2 ^ k) next in
    let parts : d ≡ high * 2 + b = omega (arith, half) in
    let limit : 2 ^ (32 - at) ≤ 2 ^ 32 = let le : 32 - at ≤ 32 = omega arith in pow_mono le in
    let whole : product * 2 % 2 ^ 64 ≡ product * 2 = omega (arith, now.0, limit) in
    let more : 2 ^ (32 - (at - 1)) ≡ 2 ^ (32 - at) * 2 = let e : 32 - (at - 1) ≡ suc (32 - at) = omega arith in ap (λ (k : ℕ). 2 ^ k) e ∙ pow-suc 2 (32 - at) in
    let wide : 2 ^ 16 ≤ 2 ^ (32 - (at - 1)) = let le : 16 ≤ 32 - (at - 1) = omega arith in pow_mono le in
    let term_fits : term ≤ power = let le : b * power ≤ power = bit_below b power b_fits in omega (arith, le, term-is) in
    let sum : d ≡ bit_xor (high * 2 ^ 1) b = parts ∙ sym (xor_shifted high 1 b b_fits) in (
      rw whole (xor_lt (32 - (at - 1)) (product * 2) term (omega (arith, now.0, more)) (omega (arith, term_fits, wide, power_fits))),
      λ count h.
          let n : ℕ = 8 * count in
          let first : IsCongruent (product * 2 * 2 ^ 16) (high * 2 ^ 1 * 2 ^ n) =
          congruent_then (congruent_from (shl-swap 1 16 product)) (congruent_then (congruent_shl 1 (now.1 count h)) (congruent_from (shl-swap n 1 high))) in
          let second : IsCongruent (term * 2 ^ 16) (b * 2 ^ n) = subst (λ (t : ℕ). IsCongruent (t * 2 ^ 16) (b * 2 ^ n)) (sym term-is) (bit_congruent b count power b_fits h) in
          congruent_then (congruent_from (ap (λ (x : ℕ). bit_xor x term * 2 ^ 16) whole ∙ sym (xor-shl (product * 2) term 16)))
          (congruent_then (congruent_xor first second) (congruent_from (xor-shl (high * 2 ^ 1) b n ∙ ap (λ (x : ℕ). x * 2 ^ n) (sym sum)))),
    )

pub product_last : (difference power product at result count : ℕ) → difference < 2 ^ 16 → at ≡ 0 → IsProduct difference power product at → IsPower count power → IsRemainder (product * 2 ^ 16) result
    → result ≡ check_moved count difference
product_last difference power product at result count fits none now h last =
    let whole : difference / 2 ^ at ≡ difference = rw none (omega arith) in
    one_remainder _ _ _ last
    (congruent_remainder (congruent_then (now.1 count h) (congruent_from (ap (λ (x : ℕ). x * 2 ^ (8 * count)) whole))) (moved_remainder count difference fits))

-- the other frame's check word
pub other_check : (front other rest : List ℕ) (check moved : ℕ) → AreBytes front → AreBytes other → AreBytes rest → check ≡ check_word_of (front ++ rest)
    → moved ≡ check_moved (length rest) (bit_xor (check_word_of front) (check_word_of other)) → bit_xor check moved ≡ check_word_of (other ++ rest)
other_check front other rest check moved fits other_fits rest_fits check-is moved-is =
    let a : ℕ = check_word_of (front ++ rest) in
    let b : ℕ = check_word_of (other ++ rest) in
    ap₂ bit_xor check-is (moved-is ∙ sym (front_differs front other rest fits other_fits rest_fits)) ∙ sym (xor_assoc a a b) ∙ ap (λ (x : ℕ). bit_xor x b) (xor_self a) ∙ xor_zero_l b
