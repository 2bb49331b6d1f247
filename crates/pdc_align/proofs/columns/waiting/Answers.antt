use Rattle.std.proofs.Common.{arith, ◌∙◌, ap}
use Rattle.pdc_arrival.specs.pdc_life.Answer.{greatest_count}
use Rattle.pdc_align.specs.Align.{ColumnState}
use Rattle.pdc_align.proofs.CountsHandedIn.{one_more_set}
use Rattle.pdc_align.proofs.columns.waiting.Goals as goal

pub loop-place-preserved : goal.loop-place-preserved
loop-place-preserved c =
    let count = λ (column : ColumnState). greatest_count column.cleared column.held in
    one_more_set count c.args.columns.now c.index-columns-place.result c.loop-place.place 16 c.loop-place.counts c.waiting.result
    (omega arith) (omega arith) (c.waiting.ensures ∙ ap count c.index-columns-place.is) c.loop-place.invariant
