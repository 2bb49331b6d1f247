use Rattle.std.proofs.Common.{◌≡◌, length, map, take}
use Rattle.pdc_core.specs.KeptArrival.{kept_part}
use Rattle.pdc_align.specs.pdc_arrival.Views.{section_part}
use Rattle.pdc_core.proofs.kept_arrival.lent.Given as goal

abbrev pub invariant-loop-kept : goal.invariant-loop-kept
invariant-loop-kept l = record {
  count : length l.parts.items ≡ l.kept-index;
  same : map section_part l.parts.items ≡ map kept_part (take l.kept-index l.sections);
}
