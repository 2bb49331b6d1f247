use Rattle.std.proofs.Common.{◌≡◌, drop}
use Rattle.std.specs.Prelude.{◌==◌}
use Rattle.std.specs.List.{list_any}
use Rattle.pdc_plain_steps.proofs.past.has_column.Given as goal

-- what is left tells whether the column is one of them
abbrev pub invariant-loop-other : goal.invariant-loop-other
invariant-loop-other l = list_any (λ d. d == l.column) (drop l.other-index l.columns) ≡ list_any (λ d. d == l.column) l.columns
