-- Congruent polynomials, and the powers of the generator: over bits the square of a sum is the sum of the squares, so
-- its fourth and its eighth power have four terms as itself.
use Rattle.std.proofs.Common.{◌≡◌, ℕ, ◌+◌, ◌*◌, ◌/◌, ◌%◌, ◌^◌, ◌<◌, ◌≤◌, refl, sym, ap, ap₂, subst, ◌∙◌, arith}
use Rattle.std.specs.Int.Bits.{bit_xor, xor_assoc, xor_comm, xor_self, xor_zero_r, xor_zero_l, xor_shifted, xor_shr, xor_mod, xor_lt}
use Rattle.std.proofs.lemmas.Nat.{pow-add, pow_pos, shl-shr, shr-shr, shr_le, shr_split, mod_below, mod_low, div_below}
use Rattle.std.proofs.Math.Pow.{pow_mono}
use Rattle.std.proofs.Math.Nat.{add_comm, add-zero, mod-eq_of_lt}
use Rattle.pdc_words.specs.CheckWord.{times_generator, IsRemainder, IsCongruent, high_of_product}
use Rattle.pdc_words.proofs.Polynomials.{swap_middle, cancel, xor-shl, times_generator-xor, times_generator-shl, times_generator-shr}

-- ---- congruence

pub congruent_self : (p : ℕ) → IsCongruent p p
congruent_self p = record { quotient = 0; division = sym (xor_zero_l p) }

pub congruent_from : {p q : ℕ} → p ≡ q → IsCongruent p q
congruent_from {p} {q} e = subst (λ (x : ℕ). IsCongruent p x) e (congruent_self p)

pub congruent_then : {p q r : ℕ} → IsCongruent p q → IsCongruent q r → IsCongruent p r
congruent_then {p} {q} {r} a b = record {
  quotient = bit_xor a.quotient b.quotient;
  division = a.division ∙ ap (λ (x : ℕ). bit_xor (times_generator a.quotient) x) b.division ∙ sym (xor_assoc (times_generator a.quotient) (times_generator b.quotient) r)
      ∙ ap (λ (x : ℕ). bit_xor x r) (sym (times_generator-xor a.quotient b.quotient));
}

pub congruent_back : {p q : ℕ} → IsCongruent p q → IsCongruent q p
congruent_back {p} {q} a = record {
  quotient = a.quotient;
  division = sym (cancel q (times_generator a.quotient)) ∙ xor_comm (bit_xor q (times_generator a.quotient)) (times_generator a.quotient)
      ∙ ap (λ (x : ℕ). bit_xor (times_generator a.quotient) x) (xor_comm q (times_generator a.quotient) ∙ sym a.division);
}

pub congruent_shl : {p q : ℕ} (k : ℕ) → IsCongruent p q → IsCongruent (p * 2 ^ k) (q * 2 ^ k)
congruent_shl {p} {q} k a = record {
  quotient = a.quotient * 2 ^ k;
  division = ap (λ (x : ℕ). x * 2 ^ k) a.division ∙ sym (xor-shl (times_generator a.quotient) q k) ∙ ap (λ (x : ℕ). bit_xor x (q * 2 ^ k)) (sym (times_generator-shl a.quotient k));
}

pub congruent_xor : {p q r s : ℕ} → IsCongruent p q → IsCongruent r s → IsCongruent (bit_xor p r) (bit_xor q s)
congruent_xor {p} {q} {r} {s} a b = record {
  quotient = bit_xor a.quotient b.quotient;
  division = ap₂ bit_xor a.division b.division ∙ swap_middle (times_generator a.quotient) q (times_generator b.quotient) s ∙ ap (λ (x : ℕ). bit_xor x (bit_xor q s)) (sym (times_generator-xor a.quotient b.quotient));
}

pub congruent_remainder : {p q r : ℕ} → IsCongruent p q → IsRemainder q r → IsRemainder p r
congruent_remainder {p} {q} {r} a b =
    let c : IsCongruent p r = congruent_then a (record { quotient = b.quotient; division = b.division }) in
    record { quotient = c.quotient; division = c.division; small = b.small }

pub remainder_congruent : {p r : ℕ} → IsRemainder p r → IsCongruent p r
remainder_congruent a = record { quotient = a.quotient; division = a.division }

-- ---- squares: (1 + x^i + x^j + x^k)^2 = 1 + x^2i + x^2j + x^2k

cancel_middle : (p m q : ℕ) → bit_xor (bit_xor p m) (bit_xor m q) ≡ bit_xor p q
cancel_middle p m q = xor_assoc p m (bit_xor m q) ∙ ap (λ (x : ℕ). bit_xor p x) (sym (xor_assoc m m q) ∙ ap (λ (x : ℕ). bit_xor x q) (xor_self m) ∙ xor_zero_l q)

abbrev Linear : (ℕ → ℕ) → Type 0
Linear f = (a b : ℕ) → f (bit_xor a b) ≡ bit_xor (f a) (f b)

-- the square of a sum is the sum of the squares
sum_squared : (f g : ℕ → ℕ) → Linear f → Linear g → ((a : ℕ) → f (g a) ≡ g (f a)) → (a : ℕ)
    → bit_xor (f (bit_xor (f a) (g a))) (g (bit_xor (f a) (g a))) ≡ bit_xor (f (f a)) (g (g a))
sum_squared f g lf lg same a =
    ap₂ bit_xor (lf (f a) (g a)) (lg (f a) (g a)) ∙ ap (λ (x : ℕ). bit_xor (bit_xor (f (f a)) (f (g a))) (bit_xor x (g (g a)))) (sym (same a)) ∙ cancel_middle (f (f a)) (f (g a)) (g (g a))

Linear-sum : (f g : ℕ → ℕ) → Linear f → Linear g → Linear (λ a. bit_xor (f a) (g a))
Linear-sum f g lf lg a b = ap₂ bit_xor (lf a b) (lg a b) ∙ swap_middle (f a) (f b) (g a) (g b)

-- with four terms
four_squared : (f g h l : ℕ → ℕ) → Linear f → Linear g → Linear h → Linear l
    → ((a : ℕ) → f (g a) ≡ g (f a)) → ((a : ℕ) → h (l a) ≡ l (h a)) → ((a : ℕ) → f (h a) ≡ h (f a)) → ((a : ℕ) → f (l a) ≡ l (f a)) → ((a : ℕ) → g (h a) ≡ h (g a)) → ((a : ℕ) → g (l a) ≡ l (g a))
    → (a : ℕ) → let t : ℕ = bit_xor (bit_xor (f a) (g a)) (bit_xor (h a) (l a)) in
    bit_xor (bit_xor (f t) (g t)) (bit_xor (h t) (l t)) ≡ bit_xor (bit_xor (f (f a)) (g (g a))) (bit_xor (h (h a)) (l (l a)))
four_squared f g h l lf lg lh ll fg hl fh fl gh gl a =
    let front : ℕ → ℕ = λ x. bit_xor (f x) (g x) in
    let back : ℕ → ℕ = λ x. bit_xor (h x) (l x) in
    let meet : (x : ℕ) → front (back x) ≡ back (front x) = λ x.
    ap₂ bit_xor (lf (h x) (l x)) (lg (h x) (l x)) ∙ swap_middle (f (h x)) (f (l x)) (g (h x)) (g (l x))
    ∙ ap₂ bit_xor (ap₂ bit_xor (fh x) (gh x)) (ap₂ bit_xor (fl x) (gl x)) ∙ sym (ap₂ bit_xor (lh (f x) (g x)) (ll (f x) (g x))) in
    sum_squared front back (Linear-sum f g lf lg) (Linear-sum h l lh ll) meet a ∙ ap₂ bit_xor (sum_squared f g lf lg fg a) (sum_squared h l lh ll hl a)

-- the sum of a number and three shifts of it to the left: its product with x^k + x^j + x^i + 1
abbrev pub product : ℕ → ℕ → ℕ → ℕ → ℕ
product i j k a = bit_xor (bit_xor (a * 2 ^ k) (a * 2 ^ j)) (bit_xor (a * 2 ^ i) a)

Linear-shl : (k : ℕ) → Linear (λ a. a * 2 ^ k)
Linear-shl k a b = sym (xor-shl a b k)

Linear-shr : (k : ℕ) → Linear (λ a. a / 2 ^ k)
Linear-shr k a b = xor_shr a b k

Linear-self : Linear (λ a. a)
Linear-self a b = refl

pub shl-swap : (j k a : ℕ) → a * 2 ^ j * 2 ^ k ≡ a * 2 ^ k * 2 ^ j
shl-swap j k a = omega arith

shr-swap : (j k a : ℕ) → a / 2 ^ j / 2 ^ k ≡ a / 2 ^ k / 2 ^ j
shr-swap j k a = shr-shr a j k ∙ ap (λ (n : ℕ). a / 2 ^ n) (add_comm j k) ∙ sym (shr-shr a k j)

pub shl-twice : (k a : ℕ) → a * 2 ^ k * 2 ^ k ≡ a * 2 ^ (k + k)
shl-twice k a = let e : 2 ^ (k + k) ≡ 2 ^ k * 2 ^ k = pow-add 2 k k in rw e (omega arith)

pub product-squared : (i j k a : ℕ) → product i j k (product i j k a) ≡ product (i + i) (j + j) (k + k) a
product-squared i j k a =
    four_squared (λ x. x * 2 ^ k) (λ x. x * 2 ^ j) (λ x. x * 2 ^ i) (λ x. x) (Linear-shl k) (Linear-shl j) (Linear-shl i) Linear-self
    (shl-swap j k) (λ x. refl) (shl-swap i k) (λ x. refl) (shl-swap i j) (λ x. refl) a
    ∙ ap₂ bit_xor (ap₂ bit_xor (shl-twice k a) (shl-twice j a)) (ap (λ (x : ℕ). bit_xor x a) (shl-twice i a))

high_of_product-squared : (i j k a : ℕ) → high_of_product i j k (high_of_product i j k a) ≡ high_of_product (i + i) (j + j) (k + k) a
high_of_product-squared i j k a =
    four_squared (λ x. x) (λ x. x / 2 ^ i) (λ x. x / 2 ^ j) (λ x. x / 2 ^ k) Linear-self (Linear-shr i) (Linear-shr j) (Linear-shr k)
    (λ x. refl) (shr-swap k j) (λ x. refl) (λ x. refl) (shr-swap j i) (shr-swap k i) a
    ∙ ap₂ bit_xor (ap (λ (x : ℕ). bit_xor a x) (shr-shr a i i)) (ap₂ bit_xor (shr-shr a j j) (shr-shr a k k))

-- ---- a product with a power of the generator, x^k + x^j + x^i + 1, where j + a and i + b are k

shl-shr_part : (p j a k : ℕ) → k ≡ j + a → p * 2 ^ j / 2 ^ k ≡ p / 2 ^ a
shl-shr_part p j a k e = ap (λ (n : ℕ). p * 2 ^ j / 2 ^ n) e ∙ sym (shr-shr (p * 2 ^ j) j a) ∙ ap (λ (x : ℕ). x / 2 ^ a) (shl-shr p j)

product-shr : (i j k a b p : ℕ) → k ≡ j + a → k ≡ i + b → product i j k p / 2 ^ k ≡ high_of_product a b k p
product-shr i j k a b p upper lower =
    xor_shr (bit_xor (p * 2 ^ k) (p * 2 ^ j)) (bit_xor (p * 2 ^ i) p) k
    ∙ ap₂ bit_xor (xor_shr (p * 2 ^ k) (p * 2 ^ j) k ∙ ap₂ bit_xor (shl-shr p k) (shl-shr_part p j a k upper))
    (xor_shr (p * 2 ^ i) p k ∙ ap (λ (x : ℕ). bit_xor x (p / 2 ^ k)) (shl-shr_part p i b k lower))

product-mod : (i j k p : ℕ) → p < 2 ^ k → product i j k p % 2 ^ k ≡ bit_xor (p * 2 ^ j % 2 ^ k) (bit_xor (p * 2 ^ i % 2 ^ k) p)
product-mod i j k p fits =
    let none : (p * 2 ^ k + 0) % 2 ^ k ≡ 0 = mod_low p k 0 (pow_pos k) in
    let gone : p * 2 ^ k % 2 ^ k ≡ 0 = simp add-zero at none in
    xor_mod (bit_xor (p * 2 ^ k) (p * 2 ^ j)) (bit_xor (p * 2 ^ i) p) k
    ∙ ap₂ bit_xor (xor_mod (p * 2 ^ k) (p * 2 ^ j) k ∙ ap (λ (x : ℕ). bit_xor x (p * 2 ^ j % 2 ^ k)) gone ∙ xor_zero_l (p * 2 ^ j % 2 ^ k))
    (xor_mod (p * 2 ^ i) p k ∙ ap (λ (x : ℕ). bit_xor (p * 2 ^ i % 2 ^ k) x) (mod-eq_of_lt fits))

-- A product whose high part is s and whose low part is the rest: s moved up is congruent to the rest where the product
-- is a multiple of the generator
high_part : (k s p : ℕ) → p / 2 ^ k ≡ s → s * 2 ^ k ≡ bit_xor p (p % 2 ^ k)
high_part k s p e =
    let below : p % 2 ^ k < 2 ^ k = mod_below p (2 ^ k) (pow_pos k) in
    let parts : p ≡ s * 2 ^ k + p % 2 ^ k = sym (shr_split p k) ∙ ap (λ (x : ℕ). x * 2 ^ k + p % 2 ^ k) e in
    let whole : bit_xor (s * 2 ^ k) (p % 2 ^ k) ≡ p = xor_shifted s k (p % 2 ^ k) below ∙ sym parts in
    sym (cancel (s * 2 ^ k) (p % 2 ^ k)) ∙ ap (λ (x : ℕ). bit_xor x (p % 2 ^ k)) whole

-- a state of k bits, moved up by them: its quotient q, and what is left of the product with q
pub moved_up_congruent : (i j k a b s q multiple : ℕ) → k ≡ j + a → k ≡ i + b → q < 2 ^ k → high_of_product a b k q ≡ s → product i j k q ≡ times_generator multiple
    → IsCongruent (s * 2 ^ k) (bit_xor (q * 2 ^ j % 2 ^ k) (bit_xor (q * 2 ^ i % 2 ^ k) q))
moved_up_congruent i j k a b s q multiple upper lower fits high same = record {
  quotient = multiple;
  division = high_part k s (product i j k q) (product-shr i j k a b q upper lower ∙ high) ∙ ap₂ bit_xor same (product-mod i j k q fits);
}

-- shifts by k bits and more leave nothing of k bits
shr_gone : (s k n : ℕ) → s < 2 ^ k → k ≤ n → s / 2 ^ n ≡ 0
shr_gone s k n fits le =
    let wide : 2 ^ k ≤ 2 ^ n = pow_mono le in
    let below : s / 2 ^ n < 1 = div_below s (2 ^ n) 1 (pow_pos n) (omega arith) in
    omega (arith, below)

-- the quotient, by the largest shifts first: only those are written that leave something
pub quotient_found : (a b k s : ℕ) → s < 2 ^ k → k ≤ b + b → k ≤ a + a + (a + a) → k ≤ b + b + (b + b)
    → high_of_product a b k (bit_xor (bit_xor (bit_xor s (s / 2 ^ (a + a))) (bit_xor s (s / 2 ^ (a + a)) / 2 ^ a)) (bit_xor s (s / 2 ^ (a + a)) / 2 ^ b)) ≡ s
quotient_found a b k s fits le le_a le_b =
    let half : ℕ = bit_xor s (s / 2 ^ (a + a)) in
    let below : (p n : ℕ) → p < 2 ^ k → p / 2 ^ n < 2 ^ k = λ p n lt. omega (arith, lt, shr_le p n) in
    let half_fits : half < 2 ^ k = xor_lt k s (s / 2 ^ (a + a)) fits (below s (a + a) fits) in
    let half-is : high_of_product (a + a) (b + b) (k + k) s ≡ half =
    ap₂ (λ (x y : ℕ). bit_xor half (bit_xor x y)) (shr_gone s k (b + b) fits le) (shr_gone s k (k + k) fits (omega arith)) ∙ xor_zero_r half in
    let found : high_of_product a b k half ≡ bit_xor (bit_xor half (half / 2 ^ a)) (half / 2 ^ b) =
    ap (λ (x : ℕ). bit_xor (bit_xor half (half / 2 ^ a)) (bit_xor (half / 2 ^ b) x)) (shr_gone half k k half_fits (omega arith)) ∙ ap (λ (x : ℕ). bit_xor (bit_xor half (half / 2 ^ a)) x) (xor_zero_r (half / 2 ^ b)) in
    let rest : high_of_product (a + a + (a + a)) (b + b + (b + b)) (k + k + (k + k)) s ≡ s =
    ap₂ (λ (x y : ℕ). bit_xor (bit_xor s x) y) (shr_gone s k (a + a + (a + a)) fits le_a)
    (ap₂ bit_xor (shr_gone s k (b + b + (b + b)) fits le_b) (shr_gone s k (k + k + (k + k)) fits (omega arith))) ∙ xor_zero_r (bit_xor s 0) ∙ xor_zero_r s in
    ap (high_of_product a b k) (sym found) ∙ high_of_product-squared a b k half ∙ ap (high_of_product (a + a) (b + b) (k + k)) (sym half-is)
    ∙ high_of_product-squared (a + a) (b + b) (k + k) s ∙ rest

-- the generator's fourth power, x^64 + x^48 + x^20 + 1, and its eighth, x^128 + x^96 + x^40 + 1
pub fourth_power : (p : ℕ) → product 20 48 64 p ≡ times_generator (times_generator (times_generator (times_generator p)))
fourth_power p =
    sym (product-squared 5 12 16 (times_generator (times_generator p)) ∙ ap (product 10 24 32) (product-squared 5 12 16 p) ∙ product-squared 10 24 32 p)

pub eighth_power : (p : ℕ) → product 40 96 128 p ≡ times_generator (times_generator (times_generator (times_generator (product 20 48 64 p))))
eighth_power p = sym (product-squared 20 48 64 p) ∙ fourth_power (product 20 48 64 p)

-- the remainder of a state moved up by 16 bits
pub check_of_state_remainder : (s h : ℕ) → high_of_product 16 44 64 h ≡ s
    → IsRemainder (s * 2 ^ 16) (bit_xor (high_of_product 4 11 16 (high_of_product 8 22 32 h) * 2 ^ 12 % 2 ^ 64) (bit_xor (high_of_product 4 11 16 (high_of_product 8 22 32 h) * 2 ^ 5 % 2 ^ 64) (high_of_product 4 11 16 (high_of_product 8 22 32 h))) % 2 ^ 16)
check_of_state_remainder s h e =
    let q : ℕ = high_of_product 4 11 16 (high_of_product 8 22 32 h) in
    let back : high_of_product 4 11 16 q ≡ s = high_of_product-squared 4 11 16 (high_of_product 8 22 32 h) ∙ high_of_product-squared 8 22 32 h ∙ e in
    let a : ℕ = q * 2 ^ 12 in
    let b : ℕ = q * 2 ^ 5 in
    let e16 : q * 2 ^ 16 % 2 ^ 16 ≡ 0 = omega arith in
    let ea : a % 2 ^ 64 % 2 ^ 16 ≡ a % 2 ^ 16 = omega arith in
    let eb : b % 2 ^ 64 % 2 ^ 16 ≡ b % 2 ^ 16 = omega arith in
    let value : ℕ = bit_xor (a % 2 ^ 64) (bit_xor (b % 2 ^ 64) q) in
    let low : times_generator q % 2 ^ 16 ≡ value % 2 ^ 16 =
    xor_mod (bit_xor (q * 2 ^ 16) a) (bit_xor b q) 16
    ∙ ap₂ bit_xor (xor_mod (q * 2 ^ 16) a 16 ∙ ap (λ (x : ℕ). bit_xor x (a % 2 ^ 16)) e16 ∙ xor_zero_l (a % 2 ^ 16) ∙ sym ea) (xor_mod b q 16 ∙ ap (λ (x : ℕ). bit_xor x (q % 2 ^ 16)) (sym eb) ∙ sym (xor_mod (b % 2 ^ 64) q 16))
    ∙ sym (xor_mod (a % 2 ^ 64) (bit_xor (b % 2 ^ 64) q) 16) in
    record {
      quotient = q;
      division = high_part 16 s (times_generator q) (times_generator-shr q ∙ back) ∙ ap (λ (x : ℕ). bit_xor (times_generator q) x) low;
      small = omega arith;
    }
