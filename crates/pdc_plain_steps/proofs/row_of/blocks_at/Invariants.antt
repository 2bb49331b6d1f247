use Rattle.std.proofs.Common.{◌≡◌, ◌≤◌, ◌-◌, ◌++◌, length, map}
use Rattle.std.specs.List.{filter_map, range_with_len}
use Rattle.pdc_row.specs.CellView.{block_view}
use Rattle.pdc_life.specs.Given.{columns_of}
use Rattle.pdc_life.specs.Life.{section_in_force}
use Rattle.pdc_life.specs.Row.{block_in, chosen_of}
use Rattle.pdc_plain_steps.specs.Views.{given_view, life_view}
use Rattle.pdc_plain_steps.proofs.row_of.blocks_at.Given as goal

-- the blocks so far, and those of the columns that are left
abbrev pub invariant-loop-column : goal.invariant-loop-column
invariant-loop-column l =
    let g = given_view l.given in
    let E = life_view l.life in
    record {
      few : length l.blocks.items ≤ l.column;
      all : map block_view l.blocks.items ++ filter_map (λ c. block_in (section_in_force g E c) (chosen_of g E c l.instant)) (range_with_len l.column (l.given.columns - l.column))
          ≡ filter_map (λ c. block_in (section_in_force g E c) (chosen_of g E c l.instant)) (columns_of g);
    }
