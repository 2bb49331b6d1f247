-- The own section of a concentrator: its name, and what it has.
use Rattle.std.specs.Prelude.{ℕ, Bool, ◌&&◌, ◌==◌, ◌+◌, ◌/◌, ◌%◌, List, [], ◌∷◌, codes, ◌++◌}
use Rattle.std.specs.Str.{bytes_eq}
use Rattle.pdc_cfg.specs.declared.shape.Shape.{Shape}

-- a decimal digit of a number, that of so many units, as ASCII
abbrev pub digit_of : ℕ → ℕ → ℕ
digit_of number unit = 48 + (number / unit) % 10

-- `PDC `, the id with five digits, and seven blanks
abbrev pub own_name : ℕ → List ℕ
own_name id = 80 ∷ 68 ∷ 67 ∷ 32 ∷ digit_of id 10000 ∷ digit_of id 1000 ∷ digit_of id 100 ∷ digit_of id 10 ∷ digit_of id 1
    ∷ 32 ∷ 32 ∷ 32 ∷ 32 ∷ 32 ∷ 32 ∷ 32 ∷ []

-- four digital words and nothing else, and that name
abbrev pub is_own : Shape → (source : ℕ) (name : List ℕ) → Bool
is_own shape source name = shape.phasors == 0 && (shape.analogs == 0 && (shape.digitals == 4 && bytes_eq name (own_name source)))
