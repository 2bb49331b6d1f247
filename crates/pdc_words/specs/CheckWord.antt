-- The check word of a frame: CRC-CCITT as a remainder of polynomials (IEEE C37.118.2-2011, 6.2 and annex B).
-- A polynomial over bits is written as a number whose bit k is the coefficient of x^k. So `bit_xor` is the sum
-- of two polynomials, and `* 2 ^ k` is a product with x^k.
use Rattle.std.specs.Prelude.{◌≡◌, ℕ, ◌+◌, ◌*◌, ◌/◌, ◌%◌, ◌^◌, ◌<◌, List, [], ◌∷◌, length, fold, bit_xor}

-- the product with the generator x^16 + x^12 + x^5 + 1
abbrev pub times_generator : ℕ → ℕ
times_generator p = bit_xor (bit_xor (p * 2 ^ 16) (p * 2 ^ 12)) (bit_xor (p * 2 ^ 5) p)

-- what is left of p when it is divided by the generator: p is a multiple of the generator plus a polynomial of
-- degree below 16
pub record IsRemainder (p remainder : ℕ) : Type 0 where
  pub quotient : ℕ
  pub division : p ≡ bit_xor (times_generator quotient) remainder
  pub small : remainder < 2 ^ 16

-- p and q have the same remainder: they are apart by a multiple of the generator
pub record IsCongruent (p q : ℕ) : Type 0 where
  pub quotient : ℕ
  pub division : p ≡ bit_xor (times_generator quotient) q

-- the part at degree k and above of the product of p with x^k + x^(k - a) + x^(k - b) + 1: the generator's first, fourth
-- and eighth power have this form, with a, b and k 4, 11 and 16, then 16, 44 and 64, then 32, 88 and 128
abbrev pub high_of_product : ℕ → ℕ → ℕ → ℕ → ℕ
high_of_product a b k p = bit_xor (bit_xor p (p / 2 ^ a)) (bit_xor (p / 2 ^ b) (p / 2 ^ k))

-- the bytes as one polynomial, the first bit highest
abbrev pub polynomial_of : List ℕ → ℕ
polynomial_of [] = 0
polynomial_of (byte ∷ bytes) = byte * 2 ^ (8 * length bytes) + polynomial_of bytes

-- The check word of the bytes M: the remainder of M * x^16 + FFFF * x^(bits of M), which is the division with a
-- register that starts at FFFF. No bytes have FFFF, `A` has B915 and `123456789` has 29B1.
abbrev pub IsCheckWord : List ℕ → ℕ → Type 0
IsCheckWord bytes check =
    IsRemainder (bit_xor (polynomial_of bytes * 2 ^ 16) (65535 * 2 ^ (8 * length bytes))) check

-- That remainder computed, for the layers above, which want a frame's bytes as a function of its fields. The law
-- `check_word_is_the_remainder` says that it is the one number that `IsCheckWord` allows. One more byte makes of the
-- remainder `check` this one.
abbrev pub check_after : ℕ → ℕ → ℕ
check_after check byte =
    let high = bit_xor (check / 2 ^ 8) byte in
    let mixed = bit_xor high (high / 2 ^ 4) in
    bit_xor (bit_xor (check * 2 ^ 8 % 2 ^ 16) (mixed * 2 ^ 12 % 2 ^ 16)) (bit_xor (mixed * 2 ^ 5 % 2 ^ 16) mixed)

unfoldable pub check_word_of : List ℕ → ℕ
check_word_of bytes = fold check_after 65535 bytes
