use Rattle.std.proofs.Common.{ap, arith, length, sym, true≢false, ◌∙◌}
use Rattle.std.proofs.lemmas.List.FromFn.{length-map-range_with_len}
use Rattle.pdc_align.specs.Calls.{new_column}
use Rattle.pdc_align.specs.Kept.{shapes_in}
use Rattle.pdc_table.specs.Content.{Content}
use Rattle.pdc_align.proofs.Popped.{popped_first}
use Rattle.pdc_align.proofs.alignment.Alignment.first.Goals as goal

pub invariant_of-result : goal.invariant_of-result
invariant_of-result g c = record {
  well_formed = c.in_ok-new_table.ensures.well_formed;
  each =
      ap length c.in_ok-columns.ensures.items ∙ length-map-range_with_len (new_column c.args.counts.now) 0 c.args.plan.columns
      ∙ sym (ap (λ (t : Content). t.columns) c.in_ok-new_table.ensures.content);
  lanes = sym (ap (λ (t : Content). t.lanes) c.in_ok-new_table.ensures.content);
  gone = popped_first c.args.plan.window c.args.plan.columns c.args.plan.lanes c.args.floor (g.T.Table.content c.in_ok-new_table.field-0) c.in_ok-new_table.ensures.content;
  shapes = c.new.ensures.shapes ∙ c.shapes-shapes.ensures ∙ ap shapes_in c.as_slice.ensures.value;
  quiet = λ e. absurd (true≢false (sym e));
}

pub shapes-shapes-requires : goal.shapes-shapes-requires
shapes-shapes-requires g c = omega (arith, ap length c.in_ok-columns.ensures.items, length-map-range_with_len (new_column c.args.counts.now) 0 c.args.plan.columns, c.args.plan.columns_most)
