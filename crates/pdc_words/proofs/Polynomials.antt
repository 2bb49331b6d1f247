-- Polynomials over bits: the product with the generator is linear, a remainder is one number, and one more byte
-- makes of a check word the next.
use Rattle.std.proofs.Common.{◌≡◌, ℕ, zero, suc, ◌+◌, ◌*◌, ◌/◌, ◌%◌, ◌^◌, ◌<◌, List, [], ◌∷◌, ◌++◌, length, fold, refl, sym, ap, subst, ◌∙◌, arith, length-append, append_assoc}
use Rattle.std.specs.Int.Bits.{bit_xor, xor_assoc, xor_comm, xor_self, xor_zero_r, xor_zero_l, xor_block, xor_shifted, xor_shr, xor_lt}
use Rattle.std.proofs.lemmas.Nat.{pow-add, pow_pos}
use Rattle.std.proofs.lemmas.List.{append-nil}
use Rattle.std.proofs.Math.Nat.{pow-suc, add-zero}
use Rattle.pdc_words.specs.Bytes.{AreBytes}
use Rattle.pdc_words.specs.CheckWord.{times_generator, IsRemainder, polynomial_of, IsCheckWord, check_after, check_word_of}

-- sums in another order
pub swap_middle : (a b c d : ℕ) → bit_xor (bit_xor a b) (bit_xor c d) ≡ bit_xor (bit_xor a c) (bit_xor b d)
swap_middle a b c d =
    xor_assoc a b (bit_xor c d) ∙ ap (λ (x : ℕ). bit_xor a x) (sym (xor_assoc b c d) ∙ ap (λ (x : ℕ). bit_xor x d) (xor_comm b c) ∙ xor_assoc c b d) ∙ sym (xor_assoc a c (bit_xor b d))

-- a term on both sides goes
pub cancel : (a b : ℕ) → bit_xor (bit_xor a b) b ≡ a
cancel a b = xor_assoc a b b ∙ ap (λ (x : ℕ). bit_xor a x) (xor_self b) ∙ xor_zero_r a

-- a sum that is 0 has two equal terms
same_from_zero : (a b : ℕ) → bit_xor a b ≡ 0 → a ≡ b
same_from_zero a b e = sym (cancel a b) ∙ ap (λ (x : ℕ). bit_xor x b) e ∙ xor_zero_l b

-- a shifted sum
pub xor-shl : (a b k : ℕ) → bit_xor (a * 2 ^ k) (b * 2 ^ k) ≡ bit_xor a b * 2 ^ k
xor-shl a b k =
    let e : bit_xor (a * 2 ^ k + 0) (b * 2 ^ k + 0) ≡ bit_xor a b * 2 ^ k + 0 = xor_block k a b 0 0 (pow_pos k) (pow_pos k) in
    simp (add-zero) at e

pub times_generator-xor : (a b : ℕ) → times_generator (bit_xor a b) ≡ bit_xor (times_generator a) (times_generator b)
times_generator-xor a b =
    rw (← xor-shl a b 16, ← xor-shl a b 12, ← xor-shl a b 5, swap_middle (a * 2 ^ 16) (b * 2 ^ 16) (a * 2 ^ 12) (b * 2 ^ 12), swap_middle (a * 2 ^ 5) (b * 2 ^ 5) a b) (swap_middle (bit_xor (a * 2 ^ 16) (a * 2 ^ 12)) (bit_xor (b * 2 ^ 16) (b * 2 ^ 12)) (bit_xor (a * 2 ^ 5) a) (bit_xor (b * 2 ^ 5) b))

pub times_generator-shl : (a k : ℕ) → times_generator (a * 2 ^ k) ≡ times_generator a * 2 ^ k
times_generator-shl a k =
    let e16 : a * 2 ^ k * 2 ^ 16 ≡ a * 2 ^ 16 * 2 ^ k = omega arith in
    let e12 : a * 2 ^ k * 2 ^ 12 ≡ a * 2 ^ 12 * 2 ^ k = omega arith in
    let e5 : a * 2 ^ k * 2 ^ 5 ≡ a * 2 ^ 5 * 2 ^ k = omega arith in
    rw (e16, e12, e5, xor-shl (a * 2 ^ 16) (a * 2 ^ 12) k, xor-shl (a * 2 ^ 5) a k) (xor-shl (bit_xor (a * 2 ^ 16) (a * 2 ^ 12)) (bit_xor (a * 2 ^ 5) a) k)

-- only 0 times the generator has degree below 16
zero_quotient : (k q : ℕ) → q < 2 ^ k → bit_xor (bit_xor q (q / 2 ^ 4)) (bit_xor (q / 2 ^ 11) (q / 2 ^ 16)) ≡ 0 → q ≡ 0
zero_quotient zero q lt e = omega arith
zero_quotient (suc k) q lt e =
    let limit : 2 ^ suc k ≡ 2 ^ k * 2 = pow-suc 2 k in
    let same : q ≡ bit_xor (q / 2 ^ 4) (bit_xor (q / 2 ^ 11) (q / 2 ^ 16)) = same_from_zero q (bit_xor (q / 2 ^ 4) (bit_xor (q / 2 ^ 11) (q / 2 ^ 16))) (sym (xor_assoc q (q / 2 ^ 4) (bit_xor (q / 2 ^ 11) (q / 2 ^ 16))) ∙ e) in
    let a : q / 2 ^ 4 < 2 ^ k = omega arith in
    let b : q / 2 ^ 11 < 2 ^ k = omega arith in
    let c : q / 2 ^ 16 < 2 ^ k = omega arith in
    let sum_below : bit_xor (q / 2 ^ 4) (bit_xor (q / 2 ^ 11) (q / 2 ^ 16)) < 2 ^ k = xor_lt k (q / 2 ^ 4) (bit_xor (q / 2 ^ 11) (q / 2 ^ 16)) a (xor_lt k (q / 2 ^ 11) (q / 2 ^ 16) b c) in
    zero_quotient k q (omega (arith, same, sum_below)) e

-- a number has fewer bits than it counts
below_pow : (n : ℕ) → n < 2 ^ n
below_pow zero = omega arith
below_pow (suc n) = omega (arith, pow-suc 2 n, below_pow n)

-- the part of the product that lies above degree 15
pub times_generator-shr : (q : ℕ) → times_generator q / 2 ^ 16 ≡ bit_xor (bit_xor q (q / 2 ^ 4)) (bit_xor (q / 2 ^ 11) (q / 2 ^ 16))
times_generator-shr q =
    let e16 : q * 2 ^ 16 / 2 ^ 16 ≡ q = omega arith in
    let e12 : q * 2 ^ 12 / 2 ^ 16 ≡ q / 2 ^ 4 = omega arith in
    let e5 : q * 2 ^ 5 / 2 ^ 16 ≡ q / 2 ^ 11 = omega arith in
    rw (xor_shr (bit_xor (q * 2 ^ 16) (q * 2 ^ 12)) (bit_xor (q * 2 ^ 5) q) 16, xor_shr (q * 2 ^ 16) (q * 2 ^ 12) 16, xor_shr (q * 2 ^ 5) q 16, e16, e12, e5) refl

pub one_remainder : (p a b : ℕ) → IsRemainder p a → IsRemainder p b → a ≡ b
one_remainder p a b ha hb =
    let q : ℕ = bit_xor ha.quotient hb.quotient in
    let zero_sum : bit_xor (bit_xor (times_generator ha.quotient) a) (bit_xor (times_generator hb.quotient) b) ≡ 0 = rw (← ha.division, ← hb.division) (xor_self p) in
    let grouped : bit_xor (times_generator q) (bit_xor a b) ≡ 0 = rw (times_generator-xor ha.quotient hb.quotient) (sym (swap_middle (times_generator ha.quotient) a (times_generator hb.quotient) b) ∙ zero_sum) in
    let same : times_generator q ≡ bit_xor a b = same_from_zero (times_generator q) (bit_xor a b) grouped in
    let small : bit_xor a b < 2 ^ 16 = xor_lt 16 a b ha.small hb.small in
    let high : times_generator q / 2 ^ 16 ≡ 0 = rw same (omega arith) in
    let none : q ≡ 0 = zero_quotient q q (below_pow q) (sym (times_generator-shr q) ∙ high) in
    same_from_zero a b (sym same ∙ ap times_generator none)

-- ---- one more byte

-- the multiple of the generator that clears a byte's place, plus what it leaves
products_meet : (t u m low part low_product : ℕ) → low < 2 ^ 16 → part < 2 ^ 16 → m ≡ bit_xor t u → m * 2 ^ 12 ≡ u * 2 ^ 16 + part
    → bit_xor (bit_xor (bit_xor (m * 2 ^ 16) (m * 2 ^ 12)) low_product) (bit_xor (bit_xor low part) low_product) ≡ t * 2 ^ 16 + low
products_meet t u m low part low_product low_fits part_fits m-is m12-is =
    let high : ℕ = bit_xor (m * 2 ^ 16) (m * 2 ^ 12) in
    let rest : ℕ = bit_xor low part in
    let gone : bit_xor (bit_xor high rest) (bit_xor low_product low_product) ≡ bit_xor high rest = rw (xor_self low_product) (xor_zero_r (bit_xor high rest)) in
    let m16 : bit_xor (m * 2 ^ 16) low ≡ m * 2 ^ 16 + low = xor_shifted m 16 low low_fits in
    let none : 0 * 2 ^ 16 + part ≡ part = omega arith in
    let m12 : bit_xor (u * 2 ^ 16 + part) (0 * 2 ^ 16 + part) ≡ bit_xor u 0 * 2 ^ 16 + bit_xor part part = xor_block 16 u 0 part part part_fits part_fits in
    let m12' : bit_xor (m * 2 ^ 12) part ≡ u * 2 ^ 16 + 0 = ap (λ (x : ℕ). bit_xor x part) m12-is ∙ ap (λ (x : ℕ). bit_xor (u * 2 ^ 16 + part) x) (sym none) ∙ m12 ∙ ap (λ (x : ℕ). x * 2 ^ 16 + bit_xor part part) (xor_zero_r u) ∙ ap (λ (x : ℕ). u * 2 ^ 16 + x) (xor_self part) in
    let both : bit_xor (m * 2 ^ 16 + low) (u * 2 ^ 16 + 0) ≡ bit_xor m u * 2 ^ 16 + bit_xor low 0 = xor_block 16 m u low 0 low_fits (pow_pos 16) in
    let back : bit_xor m u ≡ t = ap (λ (x : ℕ). bit_xor x u) m-is ∙ cancel t u in
    swap_middle high low_product rest low_product ∙ gone ∙ swap_middle (m * 2 ^ 16) (m * 2 ^ 12) low part ∙ ap (λ (x : ℕ). bit_xor x (bit_xor (m * 2 ^ 12) part)) m16
    ∙ ap (λ (x : ℕ). bit_xor (m * 2 ^ 16 + low) x) m12' ∙ both ∙ ap (λ (x : ℕ). x * 2 ^ 16 + bit_xor low 0) back ∙ ap (λ (x : ℕ). t * 2 ^ 16 + x) (xor_zero_r low)

-- a register and the byte that comes in, as the place that the byte takes and the rest
register_parts : (h low byte : ℕ) → low < 2 ^ 16 → bit_xor (h * 2 ^ 16 + low) (byte * 2 ^ 16) ≡ bit_xor h byte * 2 ^ 16 + low
register_parts h low byte fits =
    let e : bit_xor (h * 2 ^ 16 + low) (byte * 2 ^ 16 + 0) ≡ bit_xor h byte * 2 ^ 16 + bit_xor low 0 = xor_block 16 h byte low 0 fits (pow_pos 16) in
    ap (λ (x : ℕ). bit_xor (h * 2 ^ 16 + low) x) (sym (add-zero (byte * 2 ^ 16))) ∙ e ∙ ap (λ (x : ℕ). bit_xor h byte * 2 ^ 16 + x) (xor_zero_r low)

pub byte_division : (check byte : ℕ) → check < 2 ^ 16 → byte < 2 ^ 8 → IsRemainder (bit_xor (check * 2 ^ 8) (byte * 2 ^ 16)) (check_after check byte)
byte_division check byte check_fits byte_fits =
    let h : ℕ = check / 2 ^ 8 in
    let t : ℕ = bit_xor h byte in
    let m : ℕ = bit_xor t (t / 2 ^ 4) in
    let low : ℕ = check * 2 ^ 8 % 2 ^ 16 in
    let part : ℕ = m * 2 ^ 12 % 2 ^ 16 in
    let t_fits : t < 2 ^ 8 = xor_lt 8 h byte (omega arith) byte_fits in
    let m_fits : m < 2 ^ 8 = xor_lt 8 t (t / 2 ^ 4) t_fits (omega arith) in
    let low_fits : low < 2 ^ 16 = omega arith in
    let part_fits : part < 2 ^ 16 = omega arith in
    let m5-is : m * 2 ^ 5 % 2 ^ 16 ≡ m * 2 ^ 5 = omega arith in
    let check-is : check * 2 ^ 8 ≡ h * 2 ^ 16 + low = omega arith in
    let gone : t / 2 ^ 4 / 2 ^ 4 ≡ 0 = omega arith in
    let m_high : m / 2 ^ 4 ≡ t / 2 ^ 4 = xor_shr t (t / 2 ^ 4) 4 ∙ ap (λ (x : ℕ). bit_xor (t / 2 ^ 4) x) gone ∙ xor_zero_r (t / 2 ^ 4) in
    let m12-is : m * 2 ^ 12 ≡ t / 2 ^ 4 * 2 ^ 16 + part = omega (arith, m_high) in
    let low_product : ℕ = bit_xor (m * 2 ^ 5) m in
    let after : check_after check byte ≡ bit_xor (bit_xor low part) low_product = ap (λ (x : ℕ). bit_xor (bit_xor low part) (bit_xor x m)) m5-is in
    let right : bit_xor (times_generator m) (bit_xor (bit_xor low part) low_product) ≡ t * 2 ^ 16 + low = products_meet t (t / 2 ^ 4) m low part low_product low_fits part_fits refl m12-is in
    record {
      quotient = m;
      division = ap (λ (x : ℕ). bit_xor x (byte * 2 ^ 16)) check-is ∙ register_parts h low byte low_fits ∙ sym right ∙ ap (λ (x : ℕ). bit_xor (times_generator m) x) (sym after);
      small = xor_lt 16 (bit_xor low part) (bit_xor (m * 2 ^ 5 % 2 ^ 16) m) (xor_lt 16 low part low_fits part_fits) (xor_lt 16 (m * 2 ^ 5 % 2 ^ 16) m (omega arith) (omega arith));
    }

pub polynomial_of-push : (bytes : List ℕ) (byte : ℕ) → polynomial_of (bytes ++ byte ∷ []) ≡ polynomial_of bytes * 2 ^ 8 + byte
polynomial_of-push [] byte = omega arith
polynomial_of-push (b ∷ bytes) byte =
    let len : 8 * length (bytes ++ byte ∷ []) ≡ 8 * length bytes + 8 = omega (arith, length-append bytes (byte ∷ [])) in
    let wide : 2 ^ (8 * length bytes + 8) ≡ 2 ^ (8 * length bytes) * 2 ^ 8 = pow-add 2 (8 * length bytes) 8 in
    rw (len, wide, polynomial_of-push bytes byte) (omega arith)

-- a sum with one more byte: what came before moves up by eight bits
sum-push : (p f byte : ℕ) → byte < 2 ^ 8 → bit_xor ((p * 2 ^ 8 + byte) * 2 ^ 16) (f * 2 ^ 8) ≡ bit_xor (bit_xor (p * 2 ^ 16) f * 2 ^ 8) (byte * 2 ^ 16)
sum-push p f byte fits =
    let parts : (p * 2 ^ 8 + byte) * 2 ^ 16 ≡ p * 2 ^ 16 * 2 ^ 8 + byte * 2 ^ 16 = omega arith in
    let apart : bit_xor (p * 2 ^ 24) (byte * 2 ^ 16) ≡ p * 2 ^ 24 + byte * 2 ^ 16 = xor_shifted p 24 (byte * 2 ^ 16) (omega arith) in
    let same : p * 2 ^ 16 * 2 ^ 8 ≡ p * 2 ^ 24 = omega arith in
    let split : (p * 2 ^ 8 + byte) * 2 ^ 16 ≡ bit_xor (p * 2 ^ 16 * 2 ^ 8) (byte * 2 ^ 16) = parts ∙ ap (λ (x : ℕ). x + byte * 2 ^ 16) same ∙ sym apart ∙ ap (λ (x : ℕ). bit_xor x (byte * 2 ^ 16)) (sym same) in
    ap (λ (x : ℕ). bit_xor x (f * 2 ^ 8)) split ∙ xor_assoc (p * 2 ^ 16 * 2 ^ 8) (byte * 2 ^ 16) (f * 2 ^ 8) ∙ ap (λ (x : ℕ). bit_xor (p * 2 ^ 16 * 2 ^ 8) x) (xor_comm (byte * 2 ^ 16) (f * 2 ^ 8))
    ∙ sym (xor_assoc (p * 2 ^ 16 * 2 ^ 8) (f * 2 ^ 8) (byte * 2 ^ 16)) ∙ ap (λ (x : ℕ). bit_xor x (byte * 2 ^ 16)) (xor-shl (p * 2 ^ 16) f 8)

pub IsCheckWord-push : (bytes : List ℕ) (check byte : ℕ) → byte < 2 ^ 8 → IsCheckWord bytes check → IsCheckWord (bytes ++ byte ∷ []) (check_after check byte)
IsCheckWord-push bytes check byte byte_fits h =
    let one : IsRemainder (bit_xor (check * 2 ^ 8) (byte * 2 ^ 16)) (check_after check byte) = byte_division check byte h.small byte_fits in
    let p : ℕ = polynomial_of bytes in
    let f : ℕ = 65535 * 2 ^ (8 * length bytes) in
    let g : ℕ = times_generator h.quotient in
    let next : ℕ = check_after check byte in
    let len : 8 * length (bytes ++ byte ∷ []) ≡ 8 * length bytes + 8 = omega (arith, length-append bytes (byte ∷ [])) in
    let wide : 2 ^ (8 * length (bytes ++ byte ∷ [])) ≡ 2 ^ (8 * length bytes) * 2 ^ 8 = ap (λ (k : ℕ). 2 ^ k) len ∙ pow-add 2 (8 * length bytes) 8 in
    let start : 65535 * 2 ^ (8 * length (bytes ++ byte ∷ [])) ≡ f * 2 ^ 8 = ap (λ (x : ℕ). 65535 * x) wide ∙ (omega arith) in
    let moved : bit_xor (bit_xor (p * 2 ^ 16) f * 2 ^ 8) (byte * 2 ^ 16) ≡ bit_xor (bit_xor g check * 2 ^ 8) (byte * 2 ^ 16) = ap (λ (x : ℕ). bit_xor (x * 2 ^ 8) (byte * 2 ^ 16)) h.division in
    let split : bit_xor (bit_xor g check * 2 ^ 8) (byte * 2 ^ 16) ≡ bit_xor (g * 2 ^ 8) (bit_xor (check * 2 ^ 8) (byte * 2 ^ 16)) = ap (λ (x : ℕ). bit_xor x (byte * 2 ^ 16)) (sym (xor-shl g check 8)) ∙ xor_assoc (g * 2 ^ 8) (check * 2 ^ 8) (byte * 2 ^ 16) in
    let joined : bit_xor (g * 2 ^ 8) (bit_xor (check * 2 ^ 8) (byte * 2 ^ 16)) ≡ bit_xor (times_generator (bit_xor (h.quotient * 2 ^ 8) one.quotient)) next =
    ap (λ (x : ℕ). bit_xor (g * 2 ^ 8) x) one.division ∙ sym (xor_assoc (g * 2 ^ 8) (times_generator one.quotient) next)
    ∙ ap (λ (x : ℕ). bit_xor (bit_xor x (times_generator one.quotient)) next) (sym (times_generator-shl h.quotient 8)) ∙ ap (λ (x : ℕ). bit_xor x next) (sym (times_generator-xor (h.quotient * 2 ^ 8) one.quotient)) in
    record {
      quotient = bit_xor (h.quotient * 2 ^ 8) one.quotient;
      division = ap (λ (x : ℕ). bit_xor (x * 2 ^ 16) (65535 * 2 ^ (8 * length (bytes ++ byte ∷ [])))) (polynomial_of-push bytes byte) ∙ ap (λ (x : ℕ). bit_xor ((p * 2 ^ 8 + byte) * 2 ^ 16) x) start ∙ sum-push p f byte byte_fits ∙ moved ∙ split ∙ joined;
      small = one.small;
    }

IsCheckWord-fold : (front rest : List ℕ) (check : ℕ) → AreBytes rest → IsCheckWord front check → IsCheckWord (front ++ rest) (fold check_after check rest)
IsCheckWord-fold front [] check fits h = subst (λ (bytes : List ℕ). IsCheckWord bytes check) (sym (append-nil front)) h
IsCheckWord-fold front (byte ∷ rest) check fits h =
    subst (λ (bytes : List ℕ). IsCheckWord bytes (fold check_after (check_after check byte) rest)) (append_assoc front (byte ∷ []) rest) (IsCheckWord-fold (front ++ byte ∷ []) rest (check_after check byte) (λ i. fits (suc i)) (IsCheckWord-push front check byte (fits 0) h))

pub IsCheckWord-check_word_of : (bytes : List ℕ) → AreBytes bytes → IsCheckWord bytes (check_word_of bytes)
unfolding check_word_of
IsCheckWord-check_word_of bytes fits = IsCheckWord-fold [] bytes 65535 fits (record { quotient = 0; division = refl; small = omega arith })

pub is_check : (check : ℕ) (bytes : List ℕ) → check ≡ fold check_after 65535 bytes → check ≡ check_word_of bytes
unfolding check_word_of
is_check check bytes e = e
