-- Numbers on the command line.
use Rattle.std.specs.Prelude.{◌≡◌, ℕ, ◌+◌, ◌-◌, ◌*◌, ◌<◌, List, [], ◌∷◌, length, true}
use Rattle.std.specs.Str.{all_ascii_digits}

-- what decimal digits add to a number that stands before them: 5 and 0 add to 2 what makes 250
abbrev pub read_on : ℕ → List ℕ → ℕ
read_on n [] = n
read_on n (digit ∷ digits) = read_on (10 * n + (digit - 48)) digits

-- the text writes this number: it is decimal digits alone, at least one, most significant first
pub record IsNumber (text : List ℕ) (n : ℕ) : Type 0 where
  pub digits : all_ascii_digits text ≡ true
  pub some : 0 < length text
  pub value : n ≡ read_on 0 text
