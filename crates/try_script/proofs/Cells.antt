-- The cells that the blocks of a frame make.
use Rattle.std.proofs.Common.{ℕ, ◌<◌, List, [], ◌∷◌, arith, suc, zero}
use Rattle.std.specs.List.{All}
use Rattle.pdc_row.specs.CellView.{BlockView, CellView}
use Rattle.pdc_table.specs.pdc_columns.Taking.{cells_in}

-- their columns are those of the blocks
pub cells_exist : {B : Type 0} → (view : B → BlockView) (columns quality : ℕ) (blocks : List (ℕ × B)) → All (λ (cell : ℕ × B). cell.0 < columns) blocks → All (λ (cell : ℕ × CellView). cell.0 < columns) (cells_in view blocks quality)
cells_exist view columns quality [] h k d l = absurd (omega arith)
cells_exist view columns quality (b ∷ bs) h zero d l = h zero b (omega arith)
cells_exist view columns quality (b ∷ bs) h (suc k) d l = cells_exist view columns quality bs (λ j e m. h (suc j) e (omega arith)) k d (omega arith)
