-- The instants that were popped, beside what a table contains.
use Rattle.std.specs.Prelude.{ℕ, ◌<◌, ◌≤◌, Option, None, Some}
use Rattle.std.specs.List.{AllByRecursion}
use Rattle.pdc_arrival.specs.pdc_row.RowView.{RowView}
use Rattle.pdc_table.specs.Content.{Content}

-- the greatest instant popped, after this was popped
abbrev pub popped_after : Option RowView → ℕ → ℕ
popped_after None popped = popped
popped_after (Some row) popped = row.instant

-- What was popped is at most the last instant closed, and each row that waits lies above it.
pub record IsPoppedTo (popped : ℕ) (c : Content) : Type 0 where
  pub closed : popped ≤ c.last
  pub waits : AllByRecursion (λ (row : RowView). popped < row.instant) c.closed
