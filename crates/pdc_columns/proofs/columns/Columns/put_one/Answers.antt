use Rattle.std.proofs.Common.{arith, length, ap}
use Rattle.std.proofs.lemmas.List.{length-set}
use Rattle.pdc_columns.specs.ColumnParts.{nothing}
use Rattle.std.specs.Prelude.{slice_index_or, true}
use Rattle.pdc_columns.proofs.Lent.{many_lent, seen_lent}
use Rattle.pdc_columns.proofs.ColumnParts.{first_given, none_seen, placed}
use Rattle.pdc_columns.proofs.WholeRows.{spare}
use Rattle.pdc_columns.proofs.columns.Columns.put_one.Goals as goal

pub put-requires : goal.put-requires
put-requires g c = omega (arith, (many_lent _ _ _ c.get_mut.ensures.value c.self.invariant.first), placed c.args.self.now c.self.inside.held c.get_mut.result.now.blocks c.self.inside.second.value c.args.cell.now.0 (seen_lent _ _ _ _ _ c.get_mut.ensures.value c.self.view_is) (many_lent _ _ _ c.get_mut.ensures.value c.self.invariant.first) c.self.invariant.second c.requires.column)

pub hold_first-requires : goal.hold_first-requires
hold_first-requires g c = placed c.args.self.now c.self.inside.held c.self.inside.first.value.blocks c.self.inside.second.value c.args.cell.now.0 c.self.view_is c.self.invariant.first c.self.invariant.second c.requires.column

pub invariant_of-self : goal.invariant_of-self
invariant_of-self g c = record {
  first = omega (arith, (many_lent _ _ _ c.get_mut.ensures.value c.self.invariant.first), ap length c.hold_first.ensures, length-set c.self.inside.held c.args.cell.now.0 (record (slice_index_or c.self.inside.held c.args.cell.now.0 nothing) { first = true; first_quality = c.args.quality }), ap length c.put.ensures, length-set c.get_mut.result.now.blocks c.args.cell.now.0 (g.B.Offered.view c.args.cell.now.1));
  second = omega (arith, c.self.invariant.second, ap length c.hold_first.ensures, length-set c.self.inside.held c.args.cell.now.0 (record (slice_index_or c.self.inside.held c.args.cell.now.0 nothing) { first = true; first_quality = c.args.quality }));
}

pub returns-then-is_alone : goal.returns-then-is_alone
returns-then-is_alone g c =
    first_given c.args.self.now c.self.inside.held c.hold_first.new.self c.get_mut.result.now.blocks c.self.inside.second.value c.put.new.self c.args.cell.now.0 c.args.lane c.args.quality (g.B.Offered.view c.args.cell.now.1) spare
    (seen_lent _ _ _ _ _ c.get_mut.ensures.value c.self.view_is) c.hold_first.ensures c.put.ensures (placed c.args.self.now c.self.inside.held c.get_mut.result.now.blocks c.self.inside.second.value c.args.cell.now.0 (seen_lent _ _ _ _ _ c.get_mut.ensures.value c.self.view_is) (many_lent _ _ _ c.get_mut.ensures.value c.self.invariant.first) c.self.invariant.second c.requires.column) (many_lent _ _ _ c.get_mut.ensures.value c.self.invariant.first) c.self.invariant.second
    (c.requires.alone c.if-is_alone.true).0
    (none_seen c.args.self.now c.self.inside.held c.get_mut.result.now.blocks c.self.inside.second.value c.args.cell.now.0 (seen_lent _ _ _ _ _ c.get_mut.ensures.value c.self.view_is) (placed c.args.self.now c.self.inside.held c.get_mut.result.now.blocks c.self.inside.second.value c.args.cell.now.0 (seen_lent _ _ _ _ _ c.get_mut.ensures.value c.self.view_is) (many_lent _ _ _ c.get_mut.ensures.value c.self.invariant.first) c.self.invariant.second c.requires.column) (many_lent _ _ _ c.get_mut.ensures.value c.self.invariant.first) c.self.invariant.second (c.requires.alone c.if-is_alone.true).1)
