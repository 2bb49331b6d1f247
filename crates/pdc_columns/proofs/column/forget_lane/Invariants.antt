use Rattle.std.proofs.Common.{◌≡◌, ◌++◌, map, take, drop}
use Rattle.pdc_columns.specs.ColumnParts.{without_lane}
use Rattle.pdc_columns.proofs.column.forget_lane.Given as goal

abbrev pub invariant-loop-held : goal.invariant-loop-held
invariant-loop-held l = l.held ≡ map (without_lane l.lane) (take l.held-index l.initial.held) ++ drop l.held-index l.initial.held
