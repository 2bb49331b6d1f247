use Rattle.std.proofs.Common.{◌∙◌, ap, arith, sym}
use Rattle.std.specs.Prelude.{slice_index_or}
use Rattle.pdc_columns.specs.ColumnParts.{column_of}
use Rattle.pdc_columns.specs.Taking.{cell_in, holds_other}
use Rattle.pdc_columns.specs.Views.{ColumnView, empty_column}
use Rattle.pdc_columns.specs.declared.column.Held.{Held}
use Rattle.pdc_columns.proofs.Lent.{as_lent, many_lent, seen_both, seen_lent}
use Rattle.pdc_columns.proofs.ColumnParts.{column_seen, placed}
use Rattle.pdc_columns.proofs.WholeRows.{spare}
use Rattle.pdc_columns.proofs.columns.Columns.holds_other.Goals as goal

pub at-held-requires : goal.at-held-requires
at-held-requires g c = placed c.args.self.now c.self.inside.held c.self.inside.first.value.blocks c.self.inside.second.value c.args.column c.self.view_is c.self.invariant.first c.self.invariant.second c.requires

pub holds_other-requires-clause-first : goal.holds_other-requires-clause-first
holds_other-requires-clause-first g c = omega (arith, (many_lent _ _ _ c.get.ensures c.self.invariant.first), placed c.args.self.now c.self.inside.held c.get.result.now.blocks c.self.inside.second.value c.args.column (seen_lent _ _ _ _ _ c.get.ensures c.self.view_is) (many_lent _ _ _ c.get.ensures c.self.invariant.first) c.self.invariant.second c.requires)

pub holds_other-requires-clause-second : goal.holds_other-requires-clause-second
holds_other-requires-clause-second g c = omega (arith, as_lent _ _ _ c.get-2.ensures c.self.invariant.second, placed c.args.self.now c.self.inside.held c.self.inside.first.value.blocks c.self.inside.second.value c.args.column c.self.view_is c.self.invariant.first c.self.invariant.second c.requires)

pub returns : goal.returns
returns g c =
    c.holds_other.ensures spare
    ∙ ap (λ (column : ColumnView). holds_other (cell_in c.args.lane column) (g.B.Offered.view c.args.block.now))
    (ap (λ (h : Held). column_of h (slice_index_or c.get.result.now.blocks c.args.column spare) (slice_index_or c.get-2.result.now c.args.column spare)) c.at-held.ensures
    ∙ sym (column_seen c.args.self.now c.self.inside.held c.get.result.now.blocks c.get-2.result.now c.args.column empty_column spare (seen_both _ _ _ _ _ _ c.get.ensures c.get-2.ensures c.self.view_is)
    (placed c.args.self.now c.self.inside.held c.get.result.now.blocks c.get-2.result.now c.args.column (seen_both _ _ _ _ _ _ c.get.ensures c.get-2.ensures c.self.view_is) (many_lent _ _ _ c.get.ensures c.self.invariant.first) (as_lent _ _ _ c.get-2.ensures c.self.invariant.second) c.requires) (many_lent _ _ _ c.get.ensures c.self.invariant.first) (as_lent _ _ _ c.get-2.ensures c.self.invariant.second)))
