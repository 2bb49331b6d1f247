use Rattle.std.proofs.Common.{◌≡◌, ◌+◌, ◌<◌, ◌^◌, drop}
use Rattle.pdc_table.specs.Closing.{counter}
use Rattle.pdc_open_row.specs.pdc_columns.Layout.{layout_view}
use Rattle.pdc_table.specs.RingRows.{rows_in}
use Rattle.pdc_table.specs.Steps.{disagreements_in}
use Rattle.pdc_table.proofs.ring.count_disagreements.Given as goal

abbrev pub invariant-loop-instant : goal.invariant-loop-instant
invariant-loop-instant l = record {
  fits : l.count < 2 ^ 64;
  so_far : counter (l.count + disagreements_in (layout_view l.layout) (rows_in l.rows.places.items l.circle.window (drop l.instant-index l.due))) ≡ counter (l.so_far + disagreements_in (layout_view l.layout) (rows_in l.rows.places.items l.circle.window l.due));
}
