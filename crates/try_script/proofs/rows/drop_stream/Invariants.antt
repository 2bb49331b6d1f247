use Rattle.std.proofs.Common.{◌≡◌, ◌++◌, map, take, drop}
use Rattle.pdc_table.specs.pdc_open_row.Taking.{without_stream}
use Rattle.try_script.proofs.rows.drop_stream.Given as goal

abbrev pub invariant-loop-row : goal.invariant-loop-row
invariant-loop-row l = l.row-items ≡ map (without_stream l.lanes l.stream) (take l.row-index l.initial.row-items) ++ drop l.row-index l.initial.row-items
