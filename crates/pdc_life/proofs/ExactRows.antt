-- Each row that closed is exact in the life before its tick.
use Rattle.pdc_life.proofs.Names.{AllByRecursion, AreExact, closed, Entry, Given, IsExactRow, IsRowOfTick, IsRun, IsWorstShown, List, popped, RowsAreExact, RowView, subst, sym, waiting}
use Rattle.pdc_life.proofs.Closing.{rows_are_of_their_ticks}
use Rattle.pdc_life.proofs.Exact.{present_exactly_where_given}
use Rattle.pdc_life.proofs.LifeLaws.{rows_come_out_once}
use Rattle.pdc_life.proofs.Lists.{each, front_part}
use Rattle.pdc_life.proofs.Steps.{run_of_tick}
use Rattle.pdc_life.proofs.Worst.{quality_is_worst_shown}

exact_row : (g : Given) (E : List Entry) (r : RowView) → IsRun g E → IsRowOfTick g E r → IsExactRow g E r
exact_row g E r run t =
    let before : IsRun g t.before = run_of_tick g E r t run in
    record {
      of_tick = t;
      blocks = subst (λ (row : RowView). AreExact g t.before r.instant row.blocks) (sym t.same) (present_exactly_where_given g t.before r.instant before);
      quality = subst (λ (row : RowView). IsWorstShown g t.before r.instant row.quality) (sym t.same) (quality_is_worst_shown g t.before r.instant before);
    }

pub rows_are_exact : RowsAreExact
rows_are_exact g E run =
    let every : AllByRecursion (IsExactRow g E) (closed E) =
    each (IsRowOfTick g E) (IsExactRow g E) (closed E) (λ r t. exact_row g E r run t) (rows_are_of_their_ticks g E run.ticked) in
    let parts = front_part (IsExactRow g E) (popped E) (waiting E) (subst (λ (rows : List RowView). AllByRecursion (IsExactRow g E) rows) (rows_come_out_once g E run.ticked) every) in
    (every, parts.1, parts.0)
