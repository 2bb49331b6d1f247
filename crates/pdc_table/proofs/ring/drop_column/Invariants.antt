use Rattle.std.proofs.Common.{◌≡◌, ◌<◌, drop, length}
use Rattle.std.specs.List.{All}
use Rattle.pdc_table.specs.RingRows.{changed}
use Rattle.pdc_open_row.specs.Taking.{without_column}
use Rattle.pdc_open_row.specs.Views.{OpenRowView}
use Rattle.pdc_table.proofs.ring.drop_column.Given as goal

abbrev pub invariant-loop-instant : goal.invariant-loop-instant
invariant-loop-instant l = record {
  left : changed (without_column l.column) l.circle.window (drop l.instant-index l.instants) l.places.items ≡ changed (without_column l.column) l.circle.window l.instants l.initial.places.items;
  size : length l.places.items ≡ l.circle.window;
  columns : All (λ (row : OpenRowView). l.column < length row.columns) l.places.items;
  capacity : l.places.capacity ≡ l.initial.places.capacity;
}
