-- Numbers of scripts: decimal digits alone, of a number of at most 64 bits.
use Rattle.std.specs.Prelude.{◌≡◌, refl, ℕ, ◌+◌, ◌-◌, ◌*◌, ◌^◌, ◌&&◌, nat_le, nat_lt, if◌then◌else◌, List, [], ◌∷◌, Option, None, Some, codes}
use Rattle.std.specs.Option.{option_and_then}

-- what a digit makes behind a number: 25 and 0 make 250; none where the byte is no digit, or it would have more than 64 bits
abbrev pub with_digit : (n : ℕ) → (byte : ℕ) → Option ℕ
with_digit n byte = if nat_le 48 byte && (nat_le byte 57 && nat_lt (10 * n + (byte - 48)) (2 ^ 64)) then Some (10 * n + (byte - 48)) else None

-- the same of several digits
abbrev pub with_digits : (n : ℕ) → List ℕ → Option ℕ
with_digits n [] = Some n
with_digits n (byte ∷ bytes) = option_and_then (λ more. with_digits more bytes) (with_digit n byte)

-- the number that the text is
abbrev pub number_of : List ℕ → Option ℕ
number_of [] = None
number_of (byte ∷ bytes) = with_digits 0 (byte ∷ bytes)

-- Worked: numbers, the greatest of 64 bits and the one behind it, a sign and nothing.
pub numbers : number_of (codes "57478860001") ≡ Some 57478860001
numbers = refl

pub greatest : number_of (codes "18446744073709551615") ≡ Some 18446744073709551615
greatest = refl

pub too_great : number_of (codes "18446744073709551616") ≡ None
too_great = refl

pub signed : number_of (codes "+1") ≡ None
signed = refl

pub nothing : number_of (codes "") ≡ None
nothing = refl
