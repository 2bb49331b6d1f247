-- The columns of the blocks of a frame are there.
use Rattle.std.proofs.Common.{ℕ, ◌<◌, List, [], ◌∷◌, arith, zero, suc}
use Rattle.std.specs.List.{All, AllByRecursion}
use Rattle.pdc_row.specs.CellView.{BlockView, CellView}
use Rattle.pdc_columns.specs.Taking.{cells_in}

-- the columns of a frame's blocks are those of the cells that they make
pub columns_exist : {B : Type 0} → (view : B → BlockView) (columns quality : ℕ) (blocks : List (ℕ × B)) → All (λ (cell : ℕ × CellView). cell.0 < columns) (cells_in view blocks quality) → All (λ (cell : ℕ × B). cell.0 < columns) blocks
columns_exist view columns quality [] h k d l = absurd (omega arith)
columns_exist view columns quality (b ∷ bs) h zero d l = h zero (d.0, record { block = view d.1; quality = quality }) (omega arith)
columns_exist view columns quality (b ∷ bs) h (suc k) d l = columns_exist view columns quality bs (λ j e m. h (suc j) e (omega arith)) k d (omega arith)

-- and all of them are below, one after the other
pub each_exists : (columns : ℕ) (cells : List (ℕ × CellView)) → All (λ (cell : ℕ × CellView). cell.0 < columns) cells → AllByRecursion (λ (cell : ℕ × CellView). cell.0 < columns) cells
each_exists columns [] h = tt
each_exists columns (cell ∷ cells) h = (h zero cell (omega arith), each_exists columns cells (λ j e m. h (suc j) e (omega arith)))
