use Rattle.std.proofs.Common.{◌∙◌, ap, arith, length, refl, true}
use Rattle.std.proofs.lemmas.Bool.{ne_eqb}
use Rattle.std.proofs.lemmas.List.{length-replicate}
use Rattle.pdc_row.specs.KeptBlocks.{shapes_of}
use Rattle.pdc_columns.proofs.Lent.{many_lent, seen_lent}
use Rattle.pdc_columns.proofs.WholeFrames.{as_many, laid_len, whole_second_alone, with_second}
use Rattle.pdc_columns.proofs.columns.Columns.put_whole_alone.Goals as goal

pub write_over-requires-clause-size : goal.write_over-requires-clause-size
write_over-requires-clause-size g c = c.args.cut.now.whole ∙ laid_len g.P.Part.column_of g.P.Part.shape_of c.args.cut.now.parts.now (shapes_of c.get_mut.result.now.blocks) 0 (c.fits.ensures c.if-not-fits.false)

pub invariant_of-first : goal.invariant_of-first
invariant_of-first g c = record {
  quality_fits = c.get_mut.result.now.quality_fits;
  few = omega (arith, c.get_mut.result.now.few, ap length c.write_over.ensures, as_many c.get_mut.result.now.blocks c.args.cut.now.bytes.now (length c.get_mut.result.now.blocks) refl);
}

pub invariant_of-self-2 : goal.invariant_of-self-2
invariant_of-self-2 g c = record {
  first = omega (arith, ap length c.write_over.ensures, as_many c.get_mut.result.now.blocks c.args.cut.now.bytes.now (length c.self.inside.held) (many_lent _ _ _ c.get_mut.ensures.value c.self.invariant.first), ap length c.fill.ensures, length-replicate (length c.self.inside.held) (with_second c.args.quality true c.in-Some.held));
  second = omega (arith, c.self.invariant.second, ap length c.fill.ensures, length-replicate (length c.self.inside.held) (with_second c.args.quality true c.in-Some.held));
}

pub returns-clause-whole : goal.returns-clause-whole
returns-clause-whole g c = λ _.
    whole_second_alone g.P.Part.column_of g.P.Part.shape_of c.args.cut.now.parts.now c.args.lane c.args.quality c.args.cut.now.bytes.now c.self.inside.held c.fill.new.self c.in-Some.held c.get_mut.result.now.blocks c.self.inside.second.value c.write_over.new.self c.args.self.now
    (ne_eqb c.args.lane 0 (λ e. omega (arith, e, c.requires.lane))) c.words_are_cut.ensures (c.fits.ensures c.if-not-fits.false)
    (seen_lent _ _ _ _ _ c.get_mut.ensures.value c.self.view_is) c.in-Some.ensures (many_lent _ _ _ c.get_mut.ensures.value c.self.invariant.first) c.self.invariant.second c.if-held.false c.write_over.ensures c.fill.ensures
