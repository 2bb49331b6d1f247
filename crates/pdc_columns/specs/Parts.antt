-- Blocks that lie one after the other in the bytes of a payload.
use Rattle.std.specs.Prelude.{ℕ, suc, ◌*◌, ◌==◌, Bool, ◌&&◌, true, false, if◌then◌else◌, List, [], ◌∷◌, drop, map, sum_by, take, Option, None, Some}
use Rattle.pdc_row.specs.pdc_cfg.Shape.{word_count_of}
use Rattle.pdc_row.specs.pdc_cfg.declared.shape.Shape.{Shape}
use Rattle.pdc_row.specs.CellView.{CellView, same_shape}

-- the bytes of blocks of these shapes
abbrev pub parts_len : {P : Type 0} → (P → Shape) → List P → ℕ
parts_len shape parts = sum_by (λ p. 2 * word_count_of (shape p)) parts

-- the cells that they make, cut one after the other, each with the column of its part
abbrev pub cut_cells : {P : Type 0} → (column : P → ℕ) (shape : P → Shape) → List P → (quality : ℕ) (words : List ℕ) → List (ℕ × CellView)
cut_cells column shape [] quality words = []
cut_cells column shape (p ∷ parts) quality words =
    (column p, record { block = record { shape = shape p; words = take (word_count_of (shape p)) words }; quality = quality })
    ∷ cut_cells column shape parts quality (drop (word_count_of (shape p)) words)

-- the parts are one for each of these shapes, in the order of the columns from this one on, each of its shape
abbrev pub are_laid_out : {P : Type 0} → (column : P → ℕ) (shape : P → Shape) → List P → List Shape → ℕ → Bool
are_laid_out column shape [] [] place = true
are_laid_out column shape [] (s ∷ shapes) place = false
are_laid_out column shape (p ∷ parts) [] place = false
are_laid_out column shape (p ∷ parts) (s ∷ shapes) place =
    (column p == place) && same_shape (shape p) s && are_laid_out column shape parts shapes (suc place)

-- the shapes of parts that are one for each column from the first one on, in their order
abbrev pub laid_out : {P : Type 0} → (column : P → ℕ) (shape : P → Shape) → List P → Option (List Shape)
laid_out column shape parts = if are_laid_out column shape parts (map shape parts) 0 then Some (map shape parts) else None
