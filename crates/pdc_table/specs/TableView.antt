-- What contracts see of a table.
use Rattle.std.specs.Prelude.{ℕ, List}
use Rattle.pdc_table.specs.Content.{Content}

-- its content; how often lanes disagreed at a closing, as a counter tells it; and for each buffer that it holds how many
-- places it has
pub record TableView : Type 0 where
  pub content : Content
  pub disagreements : ℕ
  pub memory : List ℕ
