-- What a contract sees of a closed row.
use Rattle.std.specs.Prelude.{ℕ, List, map}
use Rattle.pdc_row.specs.CellView.{BlockView}
use Rattle.pdc_row.specs.declared.due_row.DueRow.{DueRow}

-- a row that closed: its instant, the stamp under which it did, its time quality, and a block for each PMU that had a
-- count in force, in the order of the settings
pub record RowView : Type 0 where
  pub instant : ℕ
  pub start : ℕ
  pub change : ℕ
  pub quality : ℕ
  pub blocks : List BlockView

abbrev pub row_view : DueRow → RowView
row_view row = record {
  instant = row.instant;
  start = row.start;
  change = row.change;
  quality = row.quality;
  blocks = row.blocks;
}

abbrev pub row_instants : List RowView → List ℕ
row_instants rows = map (λ (r : RowView). r.instant) rows
