use Rattle.std.proofs.Common.{◌≡◌, take}
use Rattle.pdc_table.proofs.rows.copy_open.Given as goal

-- as many as were looked at stand in the list
abbrev pub invariant-loop-instant : goal.invariant-loop-instant
invariant-loop-instant l = record {
  items : l.instants.items ≡ take l.instant-index l.others;
  capacity : l.instants.capacity ≡ l.initial.instants.capacity;
}
