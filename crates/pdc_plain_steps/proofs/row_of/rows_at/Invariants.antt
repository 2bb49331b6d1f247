use Rattle.std.proofs.Common.{◌≡◌, map, take}
use Rattle.pdc_row.specs.RowView.{row_view}
use Rattle.pdc_life.specs.Row.{row_of}
use Rattle.pdc_plain_steps.specs.Views.{given_view, life_view}
use Rattle.pdc_plain_steps.proofs.row_of.rows_at.Given as goal

abbrev pub invariant-loop-instant : goal.invariant-loop-instant
invariant-loop-instant l = map row_view l.rows.items ≡ map (row_of (given_view l.given) (life_view l.life)) (take l.instant-index l.instants)
