use Rattle.std.proofs.Common.{◌≡◌, ◌-◌, ◌++◌, map, replicate, take}
use Rattle.pdc_arrival.specs.pdc_life.Answer.{greatest_count}
use Rattle.pdc_align.specs.Align.{ColumnState}
use Rattle.pdc_align.proofs.columns.waiting.Given as goal

-- the counts of the columns so far, and 0 for those that are left
abbrev pub invariant-loop-place : goal.invariant-loop-place
invariant-loop-place l =
    l.counts ≡ map (λ (column : ColumnState). greatest_count column.cleared column.held) (take l.place l.columns) ++ replicate (16 - l.place) 0
