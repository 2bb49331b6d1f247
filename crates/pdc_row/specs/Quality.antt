-- Time quality: how far a clock may be off, greater is worse (FRACSEC, C37.118.2-2011, 6.2; that the low nibble alone is the
-- number is a rule of this profile).
use Rattle.std.specs.Prelude.{ℕ, ◌%◌, max, List, [], ◌∷◌, Option, Some, None}
use Rattle.pdc_row.specs.CellView.{CellView}

-- The time quality of a frame: the low nibble of its byte, greater is worse.
abbrev pub time_quality_of : CellView → ℕ
time_quality_of cell = cell.quality % 16

-- the greatest of the numbers and this one
abbrev pub greatest : ℕ → List ℕ → ℕ
greatest n [] = n
greatest n (m ∷ ms) = greatest (max n m) ms

-- The quality of a row: the greatest of those given, and 15, the worst there is, where none is. Of 3 and 9 it is 9.
abbrev pub quality_of : List ℕ → ℕ
quality_of [] = 15
quality_of (n ∷ ns) = greatest n ns

-- the quality of a row, where this is the worst that was given so far
abbrev pub worst_of : Option ℕ → List ℕ → ℕ
worst_of None ns = quality_of ns
worst_of (Some n) ns = greatest n ns
