-- The rate of what is named.
use Rattle.std.specs.Prelude.{◌≡◌, ℕ, Option, Some}
use Rattle.pdc_life.specs.Given.{Given}

-- What is named has so many frames in a second.
pub record IsAtRate (named : Option Given) (rate : ℕ) : Type 0 where
  pub at : (g : Given) → named ≡ Some g → g.output.rate ≡ rate
