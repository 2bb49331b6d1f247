use Rattle.std.proofs.Common.{ap, arith, length, List}
use Rattle.pdc_memory.specs.Held.{HeldValue}
use Rattle.pdc_row.specs.CellView.{BlockView}
use Rattle.pdc_row.specs.declared.due_row.DueRow.{DueRow}
use Rattle.pdc_columns.proofs.ColumnParts.{laid_out_again}
use Rattle.pdc_columns.proofs.columns.Columns.trade.Goals as goal

pub returns-clause-own : goal.returns-clause-own
returns-clause-own c =
    laid_out_again c.args.self.now c.self.inside.held c.in-Some.mine c.self.inside.first.value.blocks c.self.inside.second.value c.swap.new.x.value.blocks c.swap-2.new.x.value
    c.self.view_is c.in-Some.ensures c.if-mine.false c.if-mine-2.false c.self.invariant.first c.self.invariant.second
    (omega (arith, ap (λ (b : HeldValue DueRow). length b.value.blocks) c.swap.ensures.x_after, c.other.invariant.first, c.len.ensures.value, c.len-2.ensures.value, c.if-len.false))
    (omega (arith, ap (λ (b : HeldValue (List BlockView)). length b.value) c.swap-2.ensures.x_after, c.other.invariant.second, c.len.ensures.value, c.len-2.ensures.value, c.if-len.false))

pub returns-clause-other : goal.returns-clause-other
returns-clause-other c =
    laid_out_again c.args.other.now c.other.inside.held c.in-Some-one.its c.other.inside.first.value.blocks c.other.inside.second.value c.swap.new.y.value.blocks c.swap-2.new.y.value
    c.other.view_is c.in-Some-one.ensures c.if-its.false c.if-its-2.false c.other.invariant.first c.other.invariant.second
    (omega (arith, ap (λ (b : HeldValue DueRow). length b.value.blocks) c.swap.ensures.y_after, c.self.invariant.first, c.len.ensures.value, c.len-2.ensures.value, c.if-len.false))
    (omega (arith, ap (λ (b : HeldValue (List BlockView)). length b.value) c.swap-2.ensures.y_after, c.self.invariant.second, c.len.ensures.value, c.len-2.ensures.value, c.if-len.false))
