use Rattle.std.proofs.Common.{◌≡◌, ◌++◌, map, take, drop}
use Rattle.pdc_align.specs.Calls.{with_adoption}
use Rattle.pdc_align.proofs.columns.adopt.Given as goal

-- those so far, and those that are left as they were
abbrev pub invariant-loop-column : goal.invariant-loop-column
invariant-loop-column l = l.columns ≡ map with_adoption (take l.column-index l.initial.columns) ++ drop l.column-index l.initial.columns
