use Rattle.std.proofs.Common.{◌≡◌, ◌≤◌, length, map, take}
use Rattle.pdc_core.specs.KeptArrival.{kept_part}
use Rattle.pdc_align.specs.pdc_arrival.Views.{section_part}
use Rattle.pdc_core.proofs.kept_arrival.kept.Given as goal

abbrev pub invariant-loop-part : goal.invariant-loop-part
invariant-loop-part l = record {
  same : map kept_part l.copies.items ≡ map section_part (take l.part-index l.sections);
  len : length l.copies.items ≡ l.part-index;
  room : length l.sections ≤ l.copies.capacity;
}
