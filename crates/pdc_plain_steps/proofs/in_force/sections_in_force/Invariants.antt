use Rattle.std.proofs.Common.{◌≡◌, ◌≤◌, ◌-◌, ◌++◌, length, map}
use Rattle.std.specs.List.{filter_map, range_with_len}
use Rattle.pdc_cfg.specs.Section.{fields_of_view}
use Rattle.pdc_life.specs.Life.{section_in_force}
use Rattle.pdc_life.specs.Published.{sections_in_force}
use Rattle.pdc_plain_steps.specs.Views.{given_view, life_view}
use Rattle.pdc_plain_steps.proofs.in_force.sections_in_force.Given as goal

-- the sections so far, and those of the columns that are left
abbrev pub invariant-loop-column : goal.invariant-loop-column
invariant-loop-column l = record {
  few : length l.sections.items ≤ l.column;
  all : map fields_of_view l.sections.items ++ filter_map (section_in_force (given_view l.given) (life_view l.life)) (range_with_len l.column (l.given.columns - l.column)) ≡ sections_in_force (given_view l.given) (life_view l.life);
}
