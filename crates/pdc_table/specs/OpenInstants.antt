-- The instants of open rows.
use Rattle.std.specs.Prelude.{ℕ, List, map}
use Rattle.pdc_open_row.specs.Views.{OpenRowView}

abbrev pub instants_of : List OpenRowView → List ℕ
instants_of rows = map (λ (row : OpenRowView). row.instant) rows
