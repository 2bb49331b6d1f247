use Rattle.std.proofs.Common.{◌≡◌, ◌+◌, drop}
use Rattle.std.specs.List.{prefix_len}
use Rattle.pdc_open_row.specs.Due.{is_due}
use Rattle.pdc_table.specs.RingRows.{rows_in, with_ages}
use Rattle.pdc_table.proofs.ring.count_due.Given as goal

abbrev pub invariant-loop-instant : goal.invariant-loop-instant
invariant-loop-instant l = record {
  counted : l.count ≡ l.instant-index;
  left : l.count + prefix_len (is_due l.required l.rule) (rows_in (with_ages l.rows.places.items l.rows.ages.items) l.circle.window (drop l.instant-index l.instant-items)) ≡ prefix_len (is_due l.required l.rule) (rows_in (with_ages l.rows.places.items l.rows.ages.items) l.circle.window l.instant-items);
}
