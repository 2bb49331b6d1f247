use Rattle.std.proofs.Common.{◌≡◌, ◌≤◌, ◌-◌}
use Rattle.std.specs.List.{filter_map, range_with_len}
use Rattle.std.specs.Option.{IfSome}
use Rattle.pdc_row.specs.Quality.{quality_of, worst_of}
use Rattle.pdc_life.specs.Given.{columns_of}
use Rattle.pdc_life.specs.Life.{section_in_force}
use Rattle.pdc_life.specs.Row.{chosen_of, quality_in}
use Rattle.pdc_plain_steps.specs.Views.{given_view, life_view}
use Rattle.pdc_plain_steps.proofs.row_of.row_quality.Given as goal

-- the worst so far, and what the columns that are left give
abbrev pub invariant-loop-column : goal.invariant-loop-column
invariant-loop-column l = record {
  fits : IfSome l.worst (λ n. n ≤ 15);
  all : worst_of l.worst (filter_map (λ c. quality_in (section_in_force (given_view l.given) (life_view l.life) c) (chosen_of (given_view l.given) (life_view l.life) c l.instant)) (range_with_len l.column (l.given.columns - l.column)))
      ≡ quality_of (filter_map (λ c. quality_in (section_in_force (given_view l.given) (life_view l.life) c) (chosen_of (given_view l.given) (life_view l.life) c l.instant)) (columns_of (given_view l.given)));
}
