-- Cores that are alike: they stand for lives that begin with the same.
use Rattle.std.specs.Prelude.{List}
use Rattle.pdc_align.specs.pdc_life.Given.{Given}
use Rattle.pdc_align.specs.pdc_life.Life.{Entry}

-- There is something given with which a life begins that the one stands for, and one that the other stands for.
pub record AreAlike (One Other : Given → List Entry → Type 0) : Type 0 where
  pub given : Given
  pub life : List Entry
  pub stands : One given life
  pub other_life : List Entry
  pub other_stands : Other given other_life
