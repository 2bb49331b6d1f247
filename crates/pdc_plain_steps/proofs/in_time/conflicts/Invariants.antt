use Rattle.std.proofs.Common.{◌≡◌, ℕ, drop, map}
use Rattle.std.specs.List.{list_any}
use Rattle.pdc_row.specs.CellView.{CellView}
use Rattle.pdc_life.specs.Answer.{is_other}
use Rattle.pdc_life.specs.Life.{cell_of}
use Rattle.pdc_plain_steps.specs.Views.{life_view, part_view}
use Rattle.pdc_plain_steps.proofs.in_time.conflicts.Given as goal

-- what is left tells whether there is one
abbrev pub invariant-loop-cell : goal.invariant-loop-cell
invariant-loop-cell l =
    list_any (λ (part : ℕ × CellView). is_other (cell_of (life_view l.life) l.stream part.0 l.instant) part.1) (map part_view (drop l.cell-index l.cells))
    ≡ list_any (λ (part : ℕ × CellView). is_other (cell_of (life_view l.life) l.stream part.0 l.instant) part.1) (map part_view l.cells)
