-- What holds of the cells that are taken.
use Rattle.std.specs.Prelude.{◌≡◌}
use Rattle.pdc_life.specs.Lives.{cell_of, CellView, Entry, Given, IsOfSectionInForce, IsRun, List, Some, ℕ}

-- A cell since the adoption of its column is of the section in force: it has its shape, and as many words.
abbrev pub CellsAreOfSections : Type 0
CellsAreOfSections =
    (g : Given) (E : List Entry) (s c i : ℕ) (cell : CellView) → IsRun g E → cell_of E s c i ≡ Some cell → IsOfSectionInForce g E (c, cell)
