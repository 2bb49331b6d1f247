-- Numbers with a fixed number of decimals, as they are written.
use Rattle.std.specs.Prelude.{ℕ, ℤ, pos, negsuc, suc, ◌+◌, ◌/◌, ◌%◌, List, ◌∷◌, ◌++◌, drop}
use Rattle.std.specs.Fmt.{decimal}

-- The digits behind a point: so many parts, of which `unit` are one, where `unit` is a power of ten. They have their leading zeros: these are
-- the digits of `unit` and the parts without the 1 in front. Of 5 thousandths 1005 is written without its 1.
abbrev pub decimals_text : ℕ → ℕ → List ℕ
decimals_text unit parts = drop 1 (decimal (unit + parts))

-- so many parts: the whole ones, a point, and the others
abbrev pub size_text : ℕ → ℕ → List ℕ
size_text unit size = decimal (size / unit) ++ 46 ∷ decimals_text unit (size % unit)

-- The same with a minus where there is one: of 62500 thousandths 62.500, and of -7 hundredths -0.07.
abbrev pub scaled_text : ℕ → ℤ → List ℕ
scaled_text unit (pos size) = size_text unit size
scaled_text unit (negsuc size) = 45 ∷ size_text unit (suc size)
