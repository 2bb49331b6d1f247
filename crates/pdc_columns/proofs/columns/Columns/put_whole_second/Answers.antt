use Rattle.std.proofs.Common.{◌∙◌, ap, arith, false, length, sym}
use Rattle.std.proofs.lemmas.Bool.{and_parts, ne_eqb}
use Rattle.std.proofs.lemmas.List.{length-replicate}
use Rattle.pdc_row.specs.KeptBlocks.{shapes_of}
use Rattle.pdc_row.specs.declared.due_row.DueRow.{DueRow}
use Rattle.pdc_columns.specs.ColumnParts.{columns_of}
use Rattle.pdc_columns.proofs.Lent.{as_lent, many_lent, seen_lent}
use Rattle.pdc_columns.proofs.WholeFrames.{as_many, laid_len, whole_second_own, whole_second_twin, with_second}
use Rattle.pdc_columns.proofs.Twins.{firsts_held, known_of}
use Rattle.pdc_columns.proofs.columns.Columns.put_whole_second.Goals as goal

pub are_those_of-requires : goal.are_those_of-requires
are_those_of-requires g c e =
    let both = and_parts c.args.cut.now.is_twin c.in-Some.held.first e in
    known_of c.args.cut.now.is_twin c.args.cut.now.bytes.now c.get.result.now.blocks c.args.self.now both.0 c.requires.twin
    (firsts_held c.self.inside.held c.in-Some.held c.get.result.now.blocks c.self.inside.second.value c.args.self.now (seen_lent _ _ _ _ _ c.get.ensures c.self.view_is) c.in-Some.ensures (many_lent _ _ _ c.get.ensures c.self.invariant.first) c.self.invariant.second both.1)

pub returns-then-are_those_of-clause-whole : goal.returns-then-are_those_of-clause-whole
returns-then-are_those_of-clause-whole g c = λ _.
    ap (λ (r : DueRow). columns_of c.fill.new.self r.blocks c.self.inside.second.value) (sym c.get.ensures)
    ∙ whole_second_twin g.P.Part.column_of g.P.Part.shape_of c.args.cut.now.parts.now c.args.lane c.args.quality c.args.cut.now.bytes.now c.self.inside.held c.fill.new.self c.in-Some.held c.get.result.now.blocks c.self.inside.second.value c.args.self.now
    (ne_eqb c.args.lane 0 (λ e. omega (arith, e, c.requires.lane))) c.words_are_cut.ensures (c.are_those_of.ensures.laid c.if-are_those_of.true)
    (seen_lent _ _ _ _ _ c.get.ensures c.self.view_is) c.in-Some.ensures (many_lent _ _ _ c.get.ensures c.self.invariant.first) c.self.invariant.second (c.are_those_of.ensures.same c.if-are_those_of.true) c.fill.ensures

pub write_over-requires-clause-size : goal.write_over-requires-clause-size
write_over-requires-clause-size g c = c.args.cut.now.whole ∙ laid_len g.P.Part.column_of g.P.Part.shape_of c.args.cut.now.parts.now (shapes_of c.lay_out_for.new.blocks) 0 (c.lay_out_for.ensures.laid c.if-not-lay_out_for.false)

pub invariant_of-self-2 : goal.invariant_of-self-2
invariant_of-self-2 g c = record {
  first = omega (arith, c.self.invariant.first, ap length c.fill-2.ensures, length-replicate (length c.self.inside.held) (with_second c.args.quality false c.in-Some.held));
  second = omega (arith, ap length c.write_over.ensures, as_many c.lay_out_for.new.blocks c.args.cut.now.bytes.now (length c.self.inside.held) (c.lay_out_for.ensures.len ∙ as_lent _ _ _ c.get_mut-second.ensures.value c.self.invariant.second), ap length c.fill-2.ensures, length-replicate (length c.self.inside.held) (with_second c.args.quality false c.in-Some.held));
}

pub returns-clause-whole : goal.returns-clause-whole
returns-clause-whole g c = λ _.
    whole_second_own g.P.Part.column_of g.P.Part.shape_of c.args.cut.now.parts.now c.args.lane c.args.quality c.args.cut.now.bytes.now c.self.inside.held c.fill-2.new.self c.in-Some.held c.self.inside.first.value.blocks c.get_mut-second.result.now c.lay_out_for.new.blocks c.write_over.new.self c.args.self.now
    (ne_eqb c.args.lane 0 (λ e. omega (arith, e, c.requires.lane))) c.words_are_cut.ensures (c.lay_out_for.ensures.laid c.if-not-lay_out_for.false)
    (ap (columns_of c.self.inside.held c.self.inside.first.value.blocks) c.get_mut-second.ensures.value ∙ c.self.view_is) c.in-Some.ensures c.self.invariant.first (as_lent _ _ _ c.get_mut-second.ensures.value c.self.invariant.second)
    (c.lay_out_for.ensures.len ∙ as_lent _ _ _ c.get_mut-second.ensures.value c.self.invariant.second) c.write_over.ensures c.fill-2.ensures
