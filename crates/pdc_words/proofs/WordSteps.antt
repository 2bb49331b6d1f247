-- Some bytes at once: a state whose product with x^16 has the check word as its remainder.
use Rattle.std.proofs.Common.{◌≡◌, ℕ, suc, ◌+◌, ◌-◌, ◌*◌, ◌/◌, ◌%◌, ◌^◌, ◌<◌, ◌≤◌, List, [], ◌∷◌, ◌++◌, length, length-append, take, drop, get_or, length-drop, fold, refl, sym, ap, ap₂, subst, ◌∙◌, arith}
use Rattle.std.specs.Int.Bits.{bit_or, bit_xor, xor_assoc, xor_zero_r, xor_zero_l, xor_shifted}
use Rattle.std.proofs.lemmas.Nat.{mod-mul-add, pow-add, pow_pos, shr_split, mul-le, or_shifted}
use Rattle.std.proofs.Math.Pow.{pow_mono}
use Rattle.std.proofs.Math.Nat.{add_comm, mul-div-mul_right}
use Rattle.std.proofs.Math.Seq.{take-add}
use Rattle.std.proofs.lemmas.List.{length-take, take_all, take-append-drop, drop-drop}
use Rattle.std.proofs.lemmas.Grind.{fold-append, take_at_read}
use Rattle.pdc_words.specs.Bytes.{AreBytes}
use Rattle.pdc_words.specs.CheckWord.{IsRemainder, IsCongruent, polynomial_of, check_after}
use Rattle.pdc_words.proofs.Cells.{AreBytes-take, AreBytes-drop}
use Rattle.pdc_words.proofs.Polynomials.{xor-shl, byte_division, polynomial_of-push}
use Rattle.pdc_words.proofs.Powers.{congruent_self, congruent_from, congruent_then, congruent_back, congruent_shl, congruent_xor, congruent_remainder, remainder_congruent, shl-swap}

-- a wide state in 64 bits
pub narrow_congruent : (wide next : ℕ) → IsCongruent (wide / 2 ^ 64 * 2 ^ 64) next → IsCongruent wide (bit_xor next (wide % 2 ^ 64))
narrow_congruent wide next step =
    let whole : wide ≡ bit_xor (wide / 2 ^ 64 * 2 ^ 64) (wide % 2 ^ 64) = sym (shr_split wide 64) ∙ sym (xor_shifted (wide / 2 ^ 64) 64 (wide % 2 ^ 64) (omega arith)) in
    congruent_then (congruent_from whole) (congruent_xor step (congruent_self (wide % 2 ^ 64)))

pub narrow_state : (wide state check : ℕ) → IsCongruent wide state → IsRemainder (wide * 2 ^ 16) check → IsRemainder (state * 2 ^ 16) check
narrow_state wide state check a h = congruent_remainder (congruent_shl 16 (congruent_back a)) h

-- bytes are a polynomial of that many bits
pub polynomial_below : (bytes : List ℕ) → AreBytes bytes → polynomial_of bytes < 2 ^ (8 * length bytes)
polynomial_below [] fits = omega arith
polynomial_below (byte ∷ bytes) fits =
    let n : ℕ = 8 * length bytes in
    let rest : polynomial_of bytes < 2 ^ n = polynomial_below bytes (λ i. fits (suc i)) in
    let byte_fits : byte < 256 = fits 0 in
    let len : 8 * length (byte ∷ bytes) ≡ 8 + n = omega arith in
    let wide : 2 ^ (8 + n) ≡ 2 ^ 8 * 2 ^ n = pow-add 2 8 n in
    let row : (byte + 1) * 2 ^ n ≤ 256 * 2 ^ n = mul-le (byte + 1) (2 ^ n) 256 (2 ^ n) (omega arith) (omega arith) in
    rw (len, wide) (omega (arith, row))

-- one more byte of a word that is shorter than eight
pub last_push : (number byte i : ℕ) (bytes : List ℕ) → AreBytes bytes → length bytes < 8 → i < length bytes → number ≡ polynomial_of (take i bytes) → byte ≡ get_or bytes i 0
    → bit_or (number * 256 % 2 ^ 64) byte ≡ polynomial_of (take (i + 1) bytes)
last_push number byte i bytes fits most lt number-is byte-is =
    let byte_fits : byte < 2 ^ 8 = let h : get_or bytes i 0 < 256 = fits i in omega (arith, h, byte-is) in
    let below : polynomial_of (take i bytes) < 2 ^ (8 * length (take i bytes)) = polynomial_below (take i bytes) (AreBytes-take i bytes fits) in
    let wide : 2 ^ (8 * length (take i bytes)) ≤ 2 ^ 56 = let le : 8 * length (take i bytes) ≤ 56 = omega (arith, length-take i bytes) in pow_mono le in
    let whole : number * 256 % 2 ^ 64 ≡ number * 2 ^ 8 = omega (arith, below, wide, number-is) in
    ap (λ (x : ℕ). bit_or x byte) whole ∙ or_shifted number 8 byte byte_fits ∙ ap₂ (λ (a b : ℕ). a * 2 ^ 8 + b) number-is byte-is
    ∙ sym (polynomial_of-push (take i bytes) (get_or bytes i 0)) ∙ ap polynomial_of (sym (take_at_read bytes i 0 lt).1)

-- so many bytes after a check word
pub bytes_congruent : (bytes : List ℕ) (check : ℕ) → AreBytes bytes → check < 2 ^ 16
    → IsRemainder (bit_xor (check * 2 ^ (8 * length bytes)) (polynomial_of bytes * 2 ^ 16)) (fold check_after check bytes)
bytes_congruent [] check fits lt =
    record {
      quotient = 0;
      division = let e : check * 2 ^ (8 * 0) ≡ check = omega arith in rw e (xor_zero_r check ∙ sym (xor_zero_l check));
      small = lt;
    }
bytes_congruent (byte ∷ bytes) check fits lt =
    let n : ℕ = 8 * length bytes in
    let p : ℕ = polynomial_of bytes in
    let one : IsRemainder (bit_xor (check * 2 ^ 8) (byte * 2 ^ 16)) (check_after check byte) = byte_division check byte lt (fits 0) in
    let rest : IsRemainder (bit_xor (check_after check byte * 2 ^ n) (p * 2 ^ 16)) (fold check_after (check_after check byte) bytes) =
    bytes_congruent bytes (check_after check byte) (λ i. fits (suc i)) one.small in
    let moved : IsCongruent (bit_xor (bit_xor (check * 2 ^ 8) (byte * 2 ^ 16) * 2 ^ n) (p * 2 ^ 16)) (bit_xor (check_after check byte * 2 ^ n) (p * 2 ^ 16)) =
    congruent_xor (congruent_shl n (remainder_congruent one)) (congruent_self (p * 2 ^ 16)) in
    let len : 8 * length (byte ∷ bytes) ≡ 8 + n = omega arith in
    let wide : 2 ^ (8 + n) ≡ 2 ^ 8 * 2 ^ n = pow-add 2 8 n in
    let first : check * 2 ^ (8 * length (byte ∷ bytes)) ≡ check * 2 ^ 8 * 2 ^ n = rw (len, wide) (omega arith) in
    let below : p < 2 ^ n = polynomial_below bytes (λ i. fits (suc i)) in
    let apart : byte * 2 ^ n + p ≡ bit_xor (byte * 2 ^ n) p = sym (xor_shifted byte n p below) in
    let second : (byte * 2 ^ n + p) * 2 ^ 16 ≡ bit_xor (byte * 2 ^ 16 * 2 ^ n) (p * 2 ^ 16) =
    ap (λ (x : ℕ). x * 2 ^ 16) apart ∙ sym (xor-shl (byte * 2 ^ n) p 16) ∙ ap (λ (x : ℕ). bit_xor x (p * 2 ^ 16)) (shl-swap n 16 byte) in
    let parts : bit_xor (check * 2 ^ (8 * length (byte ∷ bytes))) ((byte * 2 ^ n + p) * 2 ^ 16) ≡ bit_xor (bit_xor (check * 2 ^ 8) (byte * 2 ^ 16) * 2 ^ n) (p * 2 ^ 16) =
    ap₂ bit_xor first second ∙ sym (xor_assoc (check * 2 ^ 8 * 2 ^ n) (byte * 2 ^ 16 * 2 ^ n) (p * 2 ^ 16)) ∙ ap (λ (x : ℕ). bit_xor x (p * 2 ^ 16)) (xor-shl (check * 2 ^ 8) (byte * 2 ^ 16) n) in
    congruent_remainder (congruent_then (congruent_from parts) moved) rest

-- some more bytes
pub bytes_step : (state next check : ℕ) (bytes : List ℕ) → AreBytes bytes → IsRemainder (state * 2 ^ 16) check → IsCongruent (state * 2 ^ (8 * length bytes)) next
    → IsRemainder (bit_xor next (polynomial_of bytes) * 2 ^ 16) (fold check_after check bytes)
bytes_step state next check bytes fits now step =
    let w : ℕ = polynomial_of bytes in
    let n : ℕ = 8 * length bytes in
    let rest : IsRemainder (bit_xor (check * 2 ^ n) (w * 2 ^ 16)) (fold check_after check bytes) = bytes_congruent bytes check fits now.small in
    let up : IsCongruent (next * 2 ^ 16) (check * 2 ^ n) =
    congruent_then (congruent_shl 16 (congruent_back step)) (congruent_then (congruent_from (shl-swap n 16 state)) (congruent_shl n (remainder_congruent now))) in
    congruent_remainder (congruent_then (congruent_from (sym (xor-shl next w 16))) (congruent_xor up (congruent_self (w * 2 ^ 16)))) rest

-- a state moved up by fewer bits: what leaves it, moved up by 64 bits, and what stays
pub part_moved_up : (state next n : ℕ) → n ≤ 64 → IsCongruent (state / 2 ^ (64 - n) * 2 ^ 64) next → IsCongruent (state * 2 ^ n) (bit_xor next (state * 2 ^ n % 2 ^ 64))
part_moved_up state next n le step =
    let low : ℕ = state * 2 ^ n % 2 ^ 64 in
    let wide : 2 ^ 64 ≡ 2 ^ (64 - n) * 2 ^ n = let e : 64 ≡ 64 - n + n = omega arith in ap (λ (k : ℕ). 2 ^ k) e ∙ pow-add 2 (64 - n) n in
    let high : state * 2 ^ n / 2 ^ 64 ≡ state / 2 ^ (64 - n) = ap (λ (m : ℕ). state * 2 ^ n / m) wide ∙ mul-div-mul_right state (2 ^ (64 - n)) (pow_pos n) in
    let parts : state * 2 ^ n ≡ state / 2 ^ (64 - n) * 2 ^ 64 + low = sym (shr_split (state * 2 ^ n) 64) ∙ ap (λ (x : ℕ). x * 2 ^ 64 + low) high in
    let whole : state * 2 ^ n ≡ bit_xor (state / 2 ^ (64 - n) * 2 ^ 64) low = parts ∙ sym (xor_shifted (state / 2 ^ (64 - n)) 64 low (omega arith)) in
    congruent_then (congruent_from whole) (congruent_xor step (congruent_self low))

-- the state before the first byte
pub first_state : IsRemainder (0x84CF * 2 ^ 16) 65535
first_state = record { quotient = 35871; division = refl; small = omega arith }

-- the front and the rest are the whole
pub front_then : (check at : ℕ) (bytes : List ℕ) → fold check_after (fold check_after check (take at bytes)) (drop at bytes) ≡ fold check_after check bytes
front_then check at bytes = sym (fold-append check_after check (take at bytes) (drop at bytes)) ∙ ap (fold check_after check) (take-append-drop at bytes)

-- a step of n bytes of a longer list
pub step_at : (n state next check at : ℕ) (bytes : List ℕ) → AreBytes bytes → at + n ≤ length bytes
    → IsRemainder (state * 2 ^ 16) (fold check_after check (take at bytes)) → IsCongruent (state * 2 ^ (8 * n)) next
    → IsRemainder (bit_xor next (polynomial_of (take n (drop at bytes))) * 2 ^ 16) (fold check_after check (take (at + n) bytes))
step_at n state next check at bytes fits le now step =
    let part : List ℕ = take n (drop at bytes) in
    let len : length part ≡ n = omega (arith, length-take n (drop at bytes), length-drop at bytes) in
    let two : fold check_after check (take (at + n) bytes) ≡ fold check_after (fold check_after check (take at bytes)) part =
    ap (fold check_after check) (take-add at n bytes) ∙ fold-append check_after check (take at bytes) part in
    subst (λ (r : ℕ). IsRemainder (bit_xor next (polynomial_of part) * 2 ^ 16) r) (sym two)
    (bytes_step state next (fold check_after check (take at bytes)) part (AreBytes-take n (drop at bytes) (AreBytes-drop at bytes fits)) now
    (subst (λ (m : ℕ). IsCongruent (state * 2 ^ (8 * m)) next) (sym len) step))

pub row_sum : (a m n p r : ℕ) → a * (m * n) + (p * n + r) ≡ (a * m + p) * n + r
row_sum a m n p r = omega arith

pub polynomial_of-append : (front rest : List ℕ) → polynomial_of (front ++ rest) ≡ polynomial_of front * 2 ^ (8 * length rest) + polynomial_of rest
polynomial_of-append [] rest = omega arith
polynomial_of-append (byte ∷ front) rest =
    let len : 8 * length (front ++ rest) ≡ 8 * length front + 8 * length rest = omega (arith, length-append front rest) in
    let wide : 2 ^ (8 * length front + 8 * length rest) ≡ 2 ^ (8 * length front) * 2 ^ (8 * length rest) = pow-add 2 (8 * length front) (8 * length rest) in
    rw (len, wide, polynomial_of-append front rest) (row_sum byte (2 ^ (8 * length front)) (2 ^ (8 * length rest)) (polynomial_of front) (polynomial_of rest))

-- two words of eight bytes
pub two_words : (place high low : ℕ) (bytes : List ℕ) → AreBytes bytes → place + 16 ≤ length bytes → high < 2 ^ 64 → low < 2 ^ 64
    → high ≡ polynomial_of (take 8 (drop place bytes)) → low ≡ polynomial_of (take 8 (drop (place + 8) bytes)) → bit_or (high * 2 ^ 64 % 2 ^ 128) low ≡ polynomial_of (take 16 (drop place bytes))
two_words place high low bytes fits le high_fits low_fits high-is low-is =
    let rest : List ℕ = take 8 (drop (place + 8) bytes) in
    let len : length rest ≡ 8 = omega (arith, length-take 8 (drop (place + 8) bytes), length-drop (place + 8) bytes) in
    let whole : high * 2 ^ 64 % 2 ^ 128 ≡ high * 2 ^ 64 = omega arith in
    let parts : take 16 (drop place bytes) ≡ take 8 (drop place bytes) ++ rest = take-add 8 8 (drop place bytes) ∙ ap (λ (xs : List ℕ). take 8 (drop place bytes) ++ take 8 xs) (drop-drop 8 place bytes) in
    ap (λ (x : ℕ). bit_or x low) whole ∙ or_shifted high 64 low low_fits ∙ ap₂ (λ (a b : ℕ). a * 2 ^ 64 + b) high-is low-is
    ∙ sym (ap polynomial_of parts ∙ polynomial_of-append (take 8 (drop place bytes)) rest ∙ ap (λ (n : ℕ). polynomial_of (take 8 (drop place bytes)) * 2 ^ (8 * n) + polynomial_of rest) len)

-- a word of eight bytes and then the rest
pub step_then : (state next word last check place : ℕ) (bytes : List ℕ) → AreBytes bytes → place + 8 ≤ length bytes → IsRemainder (state * 2 ^ 16) check → IsCongruent (state * 2 ^ 64) next
    → word ≡ polynomial_of (take 8 (drop place bytes))
    → ((after : ℕ) → IsRemainder (bit_xor next word * 2 ^ 16) after → IsRemainder (last * 2 ^ 16) (fold check_after after (drop (place + 8) bytes)))
    → IsRemainder (last * 2 ^ 16) (fold check_after check (drop place bytes))
step_then state next word last check place bytes fits le now step word-is then =
    let rest : List ℕ = drop place bytes in
    let rest_fits : AreBytes rest = AreBytes-drop place bytes fits in
    let long : 0 + 8 ≤ length rest = omega (arith, length-drop place bytes, le) in
    let first : IsRemainder (bit_xor next (polynomial_of (take 8 rest)) * 2 ^ 16) (fold check_after check (take 8 rest)) = step_at 8 state next check 0 rest rest_fits long now step in
    let first' : IsRemainder (bit_xor next word * 2 ^ 16) (fold check_after check (take 8 rest)) = subst (λ (w : ℕ). IsRemainder (bit_xor next w * 2 ^ 16) (fold check_after check (take 8 rest))) (sym word-is) first in
    let behind : fold check_after (fold check_after check (take 8 rest)) (drop (place + 8) bytes) ≡ fold check_after check rest =
    ap (fold check_after (fold check_after check (take 8 rest))) (sym (drop-drop 8 place bytes)) ∙ front_then check 8 rest in
    subst (λ (r : ℕ). IsRemainder (last * 2 ^ 16) r) behind (then (fold check_after check (take 8 rest)) first')

-- fewer bytes than eight, moved up by as many bits as they have
pub last_step : (state moved word check place : ℕ) (bytes : List ℕ) → AreBytes bytes → place ≤ length bytes → length bytes < place + 8 → IsRemainder (state * 2 ^ 16) check
    → IsCongruent (state / 2 ^ (64 - 8 * (length bytes - place)) * 2 ^ 64) moved → word ≡ polynomial_of (drop place bytes)
    → IsRemainder (bit_xor moved (bit_xor (state * 2 ^ (8 * (length bytes - place)) % 2 ^ 64) word) * 2 ^ 16) (fold check_after check (drop place bytes))
last_step state moved word check place bytes fits le few now step word-is =
    let n : ℕ = 8 * (length bytes - place) in
    let low : ℕ = state * 2 ^ n % 2 ^ 64 in
    let rest : List ℕ = drop place bytes in
    let len : 8 * (length bytes - place) ≡ 8 * length rest = omega (arith, length-drop place bytes) in
    let up : IsCongruent (state * 2 ^ n) (bit_xor moved low) = part_moved_up state moved n (omega (arith, few)) step in
    let up' : IsCongruent (state * 2 ^ (8 * length rest)) (bit_xor moved low) = subst (λ (m : ℕ). IsCongruent (state * 2 ^ m) (bit_xor moved low)) len up in
    let same : bit_xor (bit_xor moved low) (polynomial_of rest) ≡ bit_xor moved (bit_xor low word) =
    xor_assoc moved low (polynomial_of rest) ∙ ap (λ (w : ℕ). bit_xor moved (bit_xor low w)) (sym word-is) in
    subst (λ (s : ℕ). IsRemainder (s * 2 ^ 16) (fold check_after check rest)) same (bytes_step state (bit_xor moved low) check rest (AreBytes-drop place bytes fits) now up')

-- the last bytes as a part of a word of eight
pub back_of_word : (word place : ℕ) (bytes : List ℕ) → AreBytes bytes → place ≤ length bytes → length bytes < place + 8 → 8 ≤ length bytes
    → word ≡ polynomial_of (take 8 (drop (length bytes - 8) bytes)) → word % (1 * 2 ^ (8 * (length bytes - place)) % 2 ^ 64) ≡ polynomial_of (drop place bytes)
back_of_word word place bytes fits le few long word-is =
    let at : ℕ = length bytes - 8 in
    let front : List ℕ = take (place - at) (drop at bytes) in
    let rest : List ℕ = drop place bytes in
    let n : ℕ = 8 * (length bytes - place) in
    let low : n ≤ 56 = omega (arith, few) in
    let wide : 2 ^ n ≤ 2 ^ 56 = pow_mono low in
    let whole : 1 * 2 ^ n % 2 ^ 64 ≡ 2 ^ n = omega (arith, wide) in
    let behind : place - at + at ≡ place = omega (arith, few, long) in
    let parts : take 8 (drop at bytes) ≡ front ++ rest =
    take_all 8 (drop at bytes) (omega (arith, length-drop at bytes, long)) ∙ sym (take-append-drop (place - at) (drop at bytes))
    ∙ ap (λ (xs : List ℕ). front ++ xs) (drop-drop (place - at) at bytes ∙ ap (λ (m : ℕ). drop m bytes) (add_comm at (place - at) ∙ behind)) in
    let len : 8 * length rest ≡ n = omega (arith, length-drop place bytes) in
    let below : polynomial_of rest < 2 ^ (8 * length rest) = polynomial_below rest (AreBytes-drop place bytes fits) in
    ap (λ (m : ℕ). word % m) (whole ∙ ap (λ (m : ℕ). 2 ^ m) (sym len))
    ∙ ap (λ (w : ℕ). w % 2 ^ (8 * length rest)) (word-is ∙ ap polynomial_of parts ∙ polynomial_of-append front rest)
    ∙ mod-mul-add (polynomial_of front) (2 ^ (8 * length rest)) (polynomial_of rest) below

-- fewer bytes than eight, alone: what the state before them is moved up to is below 2 ^ 72
pub few_state : (word : ℕ) (bytes : List ℕ) → AreBytes bytes → length bytes < 8 → word ≡ polynomial_of bytes
    → IsRemainder (bit_xor (0x84CF * 2 ^ (8 * length bytes) % 2 ^ 128) word * 2 ^ 16) (fold check_after 65535 bytes)
few_state word bytes fits few word-is =
    let n : ℕ = 8 * length bytes in
    let low : n ≤ 56 = omega (arith, few) in
    let wide : 2 ^ n ≤ 2 ^ 56 = pow_mono low in
    let whole : 0x84CF * 2 ^ n ≡ 0x84CF * 2 ^ n % 2 ^ 128 = omega (arith, wide) in
    subst (λ (w : ℕ). IsRemainder (bit_xor (0x84CF * 2 ^ n % 2 ^ 128) w * 2 ^ 16) (fold check_after 65535 bytes)) (sym word-is)
    (bytes_step 0x84CF (0x84CF * 2 ^ n % 2 ^ 128) 65535 bytes fits first_state (congruent_from whole))

-- no bytes change nothing
pub none_then : (check : ℕ) (bytes : List ℕ) → length bytes ≡ 0 → fold check_after check bytes ≡ check
none_then check [] none = refl
none_then check (byte ∷ bytes) none = absurd (omega (arith, none))

-- the state after fourteen bytes: before them stand the sixteen bits of the start
pub header_state : (number : ℕ) (bytes : List ℕ) → AreBytes bytes → length bytes ≡ 14 → number ≡ polynomial_of bytes
    → IsRemainder (bit_xor (0x84CF * 2 ^ 112 % 2 ^ 128) number * 2 ^ 16) (fold check_after 65535 bytes)
header_state number bytes fits size number-is =
    let whole : 0x84CF * 2 ^ (8 * length bytes) ≡ 0x84CF * 2 ^ 112 % 2 ^ 128 = rw size (omega arith) in
    subst (λ (w : ℕ). IsRemainder (bit_xor (0x84CF * 2 ^ 112 % 2 ^ 128) w * 2 ^ 16) (fold check_after 65535 bytes)) (sym number-is)
    (bytes_step 0x84CF (0x84CF * 2 ^ 112 % 2 ^ 128) 65535 bytes fits first_state (congruent_from whole))

-- fewer bytes than eight, from their first on
pub few_then : (state moved word check : ℕ) (bytes : List ℕ) → AreBytes bytes → length bytes < 8 → IsRemainder (state * 2 ^ 16) check
    → IsCongruent (state / 2 ^ (64 - 8 * length bytes) * 2 ^ 64) moved → word ≡ polynomial_of bytes
    → IsRemainder (bit_xor moved (bit_xor (state * 2 ^ (8 * length bytes) % 2 ^ 64) word) * 2 ^ 16) (fold check_after check bytes)
few_then state moved word check bytes fits few now step word-is =
    let same : length bytes - 0 ≡ length bytes = omega arith in
    let step' : IsCongruent (state / 2 ^ (64 - 8 * (length bytes - 0)) * 2 ^ 64) moved = subst (λ (n : ℕ). IsCongruent (state / 2 ^ (64 - 8 * n) * 2 ^ 64) moved) (sym same) step in
    subst (λ (n : ℕ). IsRemainder (bit_xor moved (bit_xor (state * 2 ^ (8 * n) % 2 ^ 64) word) * 2 ^ 16) (fold check_after check bytes)) same
    (last_step state moved word check 0 bytes fits (omega arith) (omega (arith, few)) now step' word-is)
