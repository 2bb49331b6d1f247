use Rattle.std.proofs.Common.{◌≡◌, ◌++◌, map, take, drop}
use Rattle.pdc_table.specs.pdc_open_row.Taking.{without_column}
use Rattle.try_script.proofs.rows.drop_column.Given as goal

abbrev pub invariant-loop-row : goal.invariant-loop-row
invariant-loop-row l = l.row-items ≡ map (without_column l.column) (take l.row-index l.initial.row-items) ++ drop l.row-index l.initial.row-items
