use Rattle.std.proofs.Common.{◌≡◌, ◌<◌, ℕ, false, get_or}
use Rattle.pdc_row.specs.CellView.{BlockView, is_present}
use Rattle.pdc_columns.proofs.row_blocks.worst_of_one.Given as goal

-- none so far is present
abbrev pub invariant-loop-place : goal.invariant-loop-place
invariant-loop-place l = (i : ℕ) (d : BlockView) → i < l.place → is_present (get_or l.first i d) ≡ false
