use Rattle.std.proofs.Common.{◌≡◌, ◌-◌, ◌++◌, map, replicate}
use Rattle.std.specs.List.{range_with_len}
use Rattle.pdc_life.specs.Answer.{greatest_count}
use Rattle.pdc_life.specs.Life.{cleared_count, held_section}
use Rattle.pdc_plain_steps.specs.Views.{given_view, life_view}
use Rattle.pdc_plain_steps.proofs.ticking.waiting_counts.Given as goal

-- the counts of the columns so far, and 0 for those that are left
abbrev pub invariant-loop-column : goal.invariant-loop-column
invariant-loop-column l =
    l.counts
    ≡ map (λ c. greatest_count (cleared_count (given_view l.given) (life_view l.life) c) (held_section (given_view l.given) (life_view l.life) c)) (range_with_len 0 l.column) ++ replicate (16 - l.column) 0
