use Rattle.std.proofs.Common.{◌∙◌, ap, arith, length, true, refl, sym}
use Rattle.std.proofs.lemmas.Bool.{not-true}
use Rattle.std.proofs.lemmas.List.{length-replicate}
use Rattle.pdc_row.specs.KeptBlocks.{shapes_of}
use Rattle.pdc_columns.specs.ColumnParts.{columns_of}
use Rattle.pdc_columns.proofs.Lent.{as_lent, many_lent, seen_both, seen_lent}
use Rattle.pdc_columns.proofs.WholeFrames.{as_many, laid_len, whole_first_alone, whole_first_twin, with_first}
use Rattle.pdc_columns.proofs.columns.Columns.put_whole_first.Goals as goal

pub write_over-requires-clause-size : goal.write_over-requires-clause-size
write_over-requires-clause-size g c = c.args.cut.now.whole ∙ laid_len g.P.Part.column_of g.P.Part.shape_of c.args.cut.now.parts.now (shapes_of c.get_mut.result.now.blocks) 0 (c.fits.ensures c.if-not-fits.false)

pub write_over-requires-2-clause-size : goal.write_over-requires-2-clause-size
write_over-requires-2-clause-size g c = c.args.cut.now.whole ∙ laid_len g.P.Part.column_of g.P.Part.shape_of c.args.cut.now.parts.now (shapes_of c.get_mut.result.now.blocks) 0 (c.fits.ensures c.if-not-fits.false)

pub invariant_of-first : goal.invariant_of-first
invariant_of-first g c = record {
  quality_fits = c.get_mut.result.now.quality_fits;
  few = omega (arith, c.get_mut.result.now.few, ap length c.write_over.ensures, as_many c.get_mut.result.now.blocks c.args.cut.now.bytes.now (length c.get_mut.result.now.blocks) refl);
}

pub invariant_of-first-2 : goal.invariant_of-first-2
invariant_of-first-2 g c = record {
  quality_fits = c.get_mut.result.now.quality_fits;
  few = omega (arith, c.get_mut.result.now.few, ap length c.write_over-2.ensures, as_many c.get_mut.result.now.blocks c.args.cut.now.bytes.now (length c.get_mut.result.now.blocks) refl);
}

pub invariant_of-self-then-not-held : goal.invariant_of-self-then-not-held
invariant_of-self-then-not-held g c = record {
  first = omega (arith, ap length c.write_over.ensures, as_many c.get_mut.result.now.blocks c.args.cut.now.bytes.now (length c.self.inside.held) (many_lent _ _ _ c.get_mut.ensures.value c.self.invariant.first), ap length c.fill.ensures, length-replicate (length c.self.inside.held) (with_first c.args.quality c.in-Some.held));
  second = omega (arith, c.self.invariant.second, ap length c.fill.ensures, length-replicate (length c.self.inside.held) (with_first c.args.quality c.in-Some.held));
}

pub invariant_of-self-2 : goal.invariant_of-self-2
invariant_of-self-2 g c = record {
  first = omega (arith, ap length c.write_over-2.ensures, as_many c.get_mut.result.now.blocks c.args.cut.now.bytes.now (length c.self.inside.held) (many_lent _ _ _ c.get_mut.ensures.value c.self.invariant.first), ap length c.fill-2.ensures, length-replicate (length c.self.inside.held) (record (with_first c.args.quality c.in-Some.held) { alike = true }));
  second = omega (arith, c.self.invariant.second, ap length c.fill-2.ensures, length-replicate (length c.self.inside.held) (record (with_first c.args.quality c.in-Some.held) { alike = true }));
}

pub returns-then-not-held-clause-whole : goal.returns-then-not-held-clause-whole
returns-then-not-held-clause-whole g c = λ _.
    whole_first_alone g.P.Part.column_of g.P.Part.shape_of c.args.cut.now.parts.now c.args.quality c.args.cut.now.bytes.now c.self.inside.held c.fill.new.self c.in-Some.held c.get_mut.result.now.blocks c.self.inside.second.value c.write_over.new.self c.args.self.now
    c.words_are_cut.ensures (c.fits.ensures c.if-not-fits.false)
    (seen_lent _ _ _ _ _ c.get_mut.ensures.value c.self.view_is) c.in-Some.ensures (many_lent _ _ _ c.get_mut.ensures.value c.self.invariant.first) c.self.invariant.second (not-true c.in-Some.held.second c.if-not-held.true) c.write_over.ensures c.fill.ensures

pub returns-clause-whole : goal.returns-clause-whole
returns-clause-whole g c = λ _.
    ap (columns_of c.fill-2.new.self c.write_over-2.new.self) (sym c.get-second.ensures)
    ∙ whole_first_twin g.P.Part.column_of g.P.Part.shape_of c.args.cut.now.parts.now c.args.quality c.args.cut.now.bytes.now c.self.inside.held c.fill-2.new.self c.in-Some.held c.get_mut.result.now.blocks c.get-second.result.now c.write_over-2.new.self c.args.self.now
    c.words_are_cut.ensures (c.fits.ensures c.if-not-fits.false)
    (c.fits-else-held.ensures c.if-not-fits-2.false)
    (seen_both _ _ _ _ _ _ c.get_mut.ensures.value c.get-second.ensures c.self.view_is) c.in-Some.ensures (many_lent _ _ _ c.get_mut.ensures.value c.self.invariant.first) (as_lent _ _ _ c.get-second.ensures c.self.invariant.second) c.if-held.false (c.has_bytes.ensures.same c.if-not-has_bytes.false) c.write_over-2.ensures c.fill-2.ensures
