use Rattle.std.proofs.Common.{arith, ◌++◌, ◌∷◌, [], ◌∙◌, ap, sym, map}
use Rattle.std.specs.List.{range_with_len}
use Rattle.std.proofs.lemmas.List.FromFn.{map-range_with_len_more}
use Rattle.pdc_align.specs.Calls.{new_column}
use Rattle.pdc_align.proofs.columns.new_columns.Goals as goal

pub loop-place-preserved : goal.loop-place-preserved
loop-place-preserved c = record {
  items =
      c.push.ensures.items
      ∙ ap (λ xs. xs ++ c.in_ok-new.field-0 ∷ []) c.loop-place.invariant.items
      ∙ ap (λ x. map (new_column c.args.counts.now) (range_with_len 0 c.loop-place.place) ++ x ∷ []) c.in_ok-new.ensures.column
      ∙ sym (map-range_with_len_more (new_column c.args.counts.now) 0 c.loop-place.place c.loop-place.place (omega arith));
  len = omega (arith, c.push.ensures.len);
  room = omega (arith, c.push.ensures.capacity);
}
