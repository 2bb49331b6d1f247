use Rattle.std.proofs.Common.{◌≡◌, ◌++◌, drop, take}
use Rattle.pdc_row.specs.Rising.{place}
use Rattle.pdc_plain_steps.proofs.instants.place.Given as goal

abbrev pub invariant-loop-at : goal.invariant-loop-at
invariant-loop-at l = record {
  same : l.numbers.items ≡ l.initial.numbers.items;
  left : place l.number l.initial.numbers.items ≡ take l.at l.initial.numbers.items ++ place l.number (drop l.at l.initial.numbers.items);
}
