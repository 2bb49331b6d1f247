-- The text of the header frame (C37.118.2-2011, 6.3 leaves it free).
use Rattle.std.specs.Prelude.{◌≡◌, refl, ℕ, ◌/◌, List, [], ◌∷◌}
use Rattle.pdc_row.specs.Layout.{digit}

-- "PDC ", and the id with five digits
abbrev pub header_text : ℕ → List ℕ
header_text id = 80 ∷ 68 ∷ 67 ∷ 32 ∷ digit (id / 10000) ∷ digit (id / 1000) ∷ digit (id / 100) ∷ digit (id / 10) ∷ digit id ∷ []

-- Worked: of 201 it is "PDC 00201".
pub of_201 : header_text 201 ≡ 80 ∷ 68 ∷ 67 ∷ 32 ∷ 48 ∷ 48 ∷ 50 ∷ 48 ∷ 49 ∷ []
of_201 = refl
