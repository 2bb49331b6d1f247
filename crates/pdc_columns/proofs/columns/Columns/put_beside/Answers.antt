use Rattle.std.proofs.Common.{◌∙◌, Some, ap, arith, length}
use Rattle.std.specs.Prelude.{slice_index_or}
use Rattle.std.proofs.lemmas.List.{length-set}
use Rattle.pdc_columns.specs.ColumnParts.{column_of}
use Rattle.pdc_columns.specs.Taking.{with_cell}
use Rattle.pdc_columns.specs.declared.column.Held.{Held}
use Rattle.pdc_columns.proofs.Lent.{as_lent, many_lent, seen_both, seen_lent}
use Rattle.pdc_columns.proofs.ColumnParts.{column_given, placed}
use Rattle.pdc_columns.proofs.WholeRows.{spare}
use Rattle.pdc_columns.proofs.columns.Columns.put_beside.Goals as goal

pub at-held-requires : goal.at-held-requires
at-held-requires g c = placed c.args.self.now c.self.inside.held c.self.inside.first.value.blocks c.self.inside.second.value c.args.column c.self.view_is c.self.invariant.first c.self.invariant.second c.requires

pub put-requires-clause-first : goal.put-requires-clause-first
put-requires-clause-first g c = omega (arith, (many_lent _ _ _ c.get_mut.ensures.value c.self.invariant.first), placed c.args.self.now c.self.inside.held c.get_mut.result.now.blocks c.self.inside.second.value c.args.column (seen_lent _ _ _ _ _ c.get_mut.ensures.value c.self.view_is) (many_lent _ _ _ c.get_mut.ensures.value c.self.invariant.first) c.self.invariant.second c.requires)

pub put-requires-clause-second : goal.put-requires-clause-second
put-requires-clause-second g c = omega (arith, as_lent _ _ _ c.get_mut-2.ensures.value c.self.invariant.second, placed c.args.self.now c.self.inside.held c.self.inside.first.value.blocks c.self.inside.second.value c.args.column c.self.view_is c.self.invariant.first c.self.invariant.second c.requires)

pub set-requires : goal.set-requires
set-requires g c = placed c.args.self.now c.self.inside.held c.self.inside.first.value.blocks c.self.inside.second.value c.args.column c.self.view_is c.self.invariant.first c.self.invariant.second c.requires

pub invariant_of-get_mut : goal.invariant_of-get_mut
invariant_of-get_mut g c = record {
  quality_fits = c.get_mut.result.now.quality_fits;
  few = omega (arith, c.get_mut.result.now.few, ap length (c.put.ensures.first spare), length-set c.get_mut.result.now.blocks c.args.column (slice_index_or c.put.new.first c.args.column spare));
}

pub invariant_of-self : goal.invariant_of-self
invariant_of-self g c = record {
  first = omega (arith, (many_lent _ _ _ c.get_mut.ensures.value c.self.invariant.first), ap length c.set.ensures, length-set c.self.inside.held c.args.column c.put.new.self, ap length (c.put.ensures.first spare), length-set c.get_mut.result.now.blocks c.args.column (slice_index_or c.put.new.first c.args.column spare));
  second = omega (arith, (as_lent _ _ _ c.get_mut-2.ensures.value c.self.invariant.second), ap length c.set.ensures, length-set c.self.inside.held c.args.column c.put.new.self, ap length (c.put.ensures.second spare), length-set c.get_mut-2.result.now c.args.column (slice_index_or c.put.new.second c.args.column spare));
}

pub returns : goal.returns
returns g c =
    column_given c.args.self.now c.self.inside.held c.set.new.self c.get_mut.result.now.blocks c.get_mut-2.result.now c.put.new.first c.put.new.second
    c.args.column c.args.lane (Some (record { block = g.B.Offered.view c.args.block.now; quality = c.args.quality })) c.put.new.self spare
    (seen_both _ _ _ _ _ _ c.get_mut.ensures.value c.get_mut-2.ensures.value c.self.view_is) c.set.ensures (c.put.ensures.first spare) (c.put.ensures.second spare)
    (placed c.args.self.now c.self.inside.held c.get_mut.result.now.blocks c.get_mut-2.result.now c.args.column (seen_both _ _ _ _ _ _ c.get_mut.ensures.value c.get_mut-2.ensures.value c.self.view_is) (many_lent _ _ _ c.get_mut.ensures.value c.self.invariant.first) (as_lent _ _ _ c.get_mut-2.ensures.value c.self.invariant.second) c.requires) (many_lent _ _ _ c.get_mut.ensures.value c.self.invariant.first) (as_lent _ _ _ c.get_mut-2.ensures.value c.self.invariant.second)
    (c.put.ensures.column spare
    ∙ ap (λ (h : Held). with_cell c.args.lane (Some (record { block = g.B.Offered.view c.args.block.now; quality = c.args.quality })) (column_of h (slice_index_or c.get_mut.result.now.blocks c.args.column spare) (slice_index_or c.get_mut-2.result.now c.args.column spare))) c.at-held.ensures)
