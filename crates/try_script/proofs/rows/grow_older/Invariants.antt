use Rattle.std.proofs.Common.{◌≡◌, ◌++◌, map, take, drop}
use Rattle.pdc_table.specs.Closing.{aged}
use Rattle.try_script.proofs.rows.grow_older.Given as goal

abbrev pub invariant-loop-row : goal.invariant-loop-row
invariant-loop-row l = l.row-items ≡ map aged (take l.row-index l.initial.row-items) ++ drop l.row-index l.initial.row-items
