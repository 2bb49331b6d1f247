use Rattle.std.proofs.Common.{◌≡◌, ◌+◌, ◌<◌, ◌^◌, drop}
use Rattle.pdc_table.specs.Closing.{counter}
use Rattle.pdc_table.specs.pdc_columns.Layout.{layout_view}
use Rattle.pdc_table.specs.Steps.{disagreements_in}
use Rattle.try_script.proofs.rows.count_disagreements.Given as goal

abbrev pub invariant-loop-row : goal.invariant-loop-row
invariant-loop-row l = record {
  fits : l.count < 2 ^ 64;
  so_far : counter (l.count + disagreements_in (layout_view l.layout) (drop l.row-index l.rows)) ≡ counter (l.so_far + disagreements_in (layout_view l.layout) l.rows);
}
