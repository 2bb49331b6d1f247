-- With what the core was opened whose rows are published.
use Rattle.std.specs.Prelude.{◌≡◌, Option, Some}
use Rattle.pdc_life.specs.Given.{Given}
use Rattle.pdc_mark.specs.declared.stored.Stored.{Stored}

-- What is named begins with what the mark stores: the start number, the floor, and for each column the count below which no section is
-- held. So no two lives over one mark have one start, and none forgets what an earlier one published or adopted.
pub record IsOpenedWith (named : Option Given) (stored : Stored) : Type 0 where
  pub start : (g : Given) → named ≡ Some g → g.start ≡ stored.start
  pub floor : (g : Given) → named ≡ Some g → g.floor ≡ stored.floor
  pub counts : (g : Given) → named ≡ Some g → g.counts ≡ stored.counts
