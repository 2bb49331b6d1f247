use Rattle.std.proofs.Common.{◌≡◌, ◌≤◌, ◌<◌, ◌++◌, ℕ, drop, length}
use Rattle.std.specs.List.{All}
use Rattle.pdc_align.specs.Calls.{ready_from}
use Rattle.pdc_align.proofs.columns.ready.Given as goal

-- those so far, and then those of the columns that are left
abbrev pub invariant-loop-place : goal.invariant-loop-place
invariant-loop-place l = record {
  ready : l.ready.items ++ ready_from l.place (drop l.place l.columns) ≡ ready_from 0 l.columns;
  few : length l.ready.items ≤ l.place;
  exist : All (λ (column : ℕ). column < length l.columns) l.ready.items;
}
