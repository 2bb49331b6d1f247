use Rattle.std.proofs.Common.{◌≡◌, ◌++◌, drop, length, take}
use Rattle.std.specs.List.{list_any}
use Rattle.pdc_align.specs.Calls.{cleared_from, is_ready_in}
use Rattle.pdc_align.proofs.columns.clear.Given as goal

-- the columns so far, and then those that are left once their counts are cleared
abbrev pub invariant-loop-place : goal.invariant-loop-place
invariant-loop-place l = record {
  columns : take l.place l.columns ++ cleared_from l.place l.counts (drop l.place l.columns) ≡ cleared_from 0 l.counts l.initial.columns;
  ready : l.any_ready ≡ list_any is_ready_in (take l.place l.columns);
  len : length l.columns ≡ length l.initial.columns;
}
