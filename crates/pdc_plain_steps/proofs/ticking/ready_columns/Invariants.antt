use Rattle.std.proofs.Common.{◌≡◌, ◌-◌, ◌++◌, filter, max}
use Rattle.std.specs.List.{range_with_len}
use Rattle.pdc_life.specs.Answer.{is_ready, ready_columns}
use Rattle.pdc_life.specs.Given.{count_for}
use Rattle.pdc_life.specs.Life.{cleared_count, held_section, section_in_force}
use Rattle.pdc_plain_steps.specs.Views.{given_view, life_view}
use Rattle.pdc_plain_steps.proofs.ticking.ready_columns.Given as goal

-- the columns so far, and those among the ones that are left
abbrev pub invariant-loop-column : goal.invariant-loop-column
invariant-loop-column l =
    let g = given_view l.given in
    let E = life_view l.life in
    l.columns.items ++ filter (λ c. is_ready (held_section g E c) (section_in_force g E c) (max (cleared_count g E c) (count_for c l.counts))) (range_with_len l.column (l.given.columns - l.column))
    ≡ ready_columns g E l.counts
