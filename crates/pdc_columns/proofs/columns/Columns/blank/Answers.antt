use Rattle.std.proofs.Common.{ap, arith, length}
use Rattle.pdc_row.specs.declared.due_row.DueRow.{DueRow}
use Rattle.pdc_columns.proofs.ColumnParts.{columns_emptied}
use Rattle.pdc_columns.proofs.columns.Columns.blank.Goals as goal

pub returns-clause-columns : goal.returns-clause-columns
returns-clause-columns c =
    rw c.blank.ensures (columns_emptied c.args.count c.in_ok-new.field-0.value.blocks c.in_ok-new-2.field-0.value
    (omega (arith, c.row_to_fill.ensures, ap (λ (r : DueRow). length r.blocks) c.in_ok-new.ensures.value)) (omega (arith, c.blank_blocks.ensures, ap length c.in_ok-new-2.ensures.value)))
