-- The frame of a layout.
use Rattle.std.specs.Prelude.{◌≡◌, ℕ, List}
use Rattle.pdc_life.specs.Given.{Given}
use Rattle.pdc_life.specs.Life.{Entry}
use Rattle.pdc_life.specs.Published.{layout_wire}

-- There is a life after which the bytes are the frame of the layout in force, dated with some second: that there were none is absurd. A
-- type keeps it, and a type keeps only what has no content of its own, so it is said in this way.
abbrev pub IsOfSomeLayout : List ℕ → Type 0
IsOfSomeLayout bytes = ((g : Given) (E : List Entry) (soc : ℕ) → bytes ≡ layout_wire g E soc → ⊥) → ⊥
