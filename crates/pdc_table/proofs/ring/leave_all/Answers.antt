use Rattle.std.proofs.Common.{◌∙◌, ap, arith, set}
use Rattle.std.proofs.lemmas.List.{length-set}
use Rattle.std.proofs.lemmas.List.Edits.{map_over_more}
use Rattle.pdc_open_row.specs.Views.{without_instant}
use Rattle.pdc_table.proofs.ring.leave_all.Goals as goal

pub loop-place-preserved : goal.loop-place-preserved
loop-place-preserved c = record {
  items = ap (set c.loop-place.places.items c.loop-place.place) c.leave.ensures
      ∙ map_over_more without_instant c.args.places.now.items c.loop-place.places.items c.loop-place.place c.item_mut.result.now
      (omega (arith, c.loop-place-test.true, c.len-place-end.ensures.len)) c.loop-place.invariant.items c.item_mut.ensures.value;
  size = length-set c.loop-place.places.items c.loop-place.place c.leave.new.self ∙ c.loop-place.invariant.size;
  capacity = c.loop-place.invariant.capacity;
}
