use Rattle.std.proofs.Common.{◌∙◌, ap, arith, sym}
use Rattle.std.specs.Prelude.{slice_index_or}
use Rattle.pdc_columns.specs.Chosen.{chosen_of}
use Rattle.pdc_columns.specs.ColumnParts.{column_of}
use Rattle.pdc_columns.specs.Views.{empty_column}
use Rattle.pdc_columns.specs.declared.column.Held.{Held}
use Rattle.pdc_columns.proofs.Lent.{as_lent, many_lent, seen_both}
use Rattle.pdc_columns.proofs.ColumnParts.{column_seen, past_seen}
use Rattle.pdc_columns.proofs.WholeRows.{spare}
use Rattle.pdc_columns.proofs.columns.Columns.chosen_at.Goals as goal

pub returns-then-place-len : goal.returns-then-place-len
returns-then-place-len c =
    c.chosen.ensures spare
    ∙ ap (λ (h : Held). chosen_of (column_of h (slice_index_or c.get.result.now.blocks c.args.place spare) (slice_index_or c.get-then-place-len.result.now c.args.place spare))) c.at-held.ensures
    ∙ ap (chosen_of) (sym (column_seen c.args.self.now c.self.inside.held c.get.result.now.blocks c.get-then-place-len.result.now c.args.place empty_column spare (seen_both _ _ _ _ _ _ c.get.ensures c.get-then-place-len.ensures c.self.view_is)
    (omega (arith, c.len.ensures.value, c.if-place-len.true)) (many_lent _ _ _ c.get.ensures c.self.invariant.first) (as_lent _ _ _ c.get-then-place-len.ensures c.self.invariant.second)))

pub returns-else-place-len : goal.returns-else-place-len
returns-else-place-len c =
    ap (chosen_of) (sym (past_seen c.args.self.now c.self.inside.held c.self.inside.first.value.blocks c.self.inside.second.value c.args.place empty_column c.self.view_is (omega (arith, c.len.ensures.value, c.if-place-len.false))))
