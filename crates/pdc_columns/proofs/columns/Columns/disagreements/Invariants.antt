use Rattle.std.proofs.Common.{◌≡◌, ◌+◌, ◌≤◌, drop}
use Rattle.pdc_columns.specs.Chosen.{disagreements_of}
use Rattle.pdc_columns.proofs.columns.Columns.disagreements.Given as goal

abbrev pub invariant-loop-place : goal.invariant-loop-place
invariant-loop-place l = record {
  few : l.count ≤ l.place;
  so_far : l.count + disagreements_of (drop l.place l.shapes) (drop l.place l.self) ≡ disagreements_of l.shapes l.self;
}
