use Rattle.std.proofs.Common.{◌∙◌, List, ap, length, length-set, sym}
use Rattle.pdc_row.specs.CellView.{BlockView, absent_view}
use Rattle.pdc_columns.specs.ColumnParts.{columns_of}
use Rattle.pdc_columns.specs.declared.column.Held.{Held}
use Rattle.pdc_columns.proofs.ColumnParts.{laid_empty}
use Rattle.std.proofs.lemmas.Bool.{not-true}
use Rattle.pdc_columns.proofs.whole.lay_out_empty.Goals as goal
use Rattle.pdc_columns.proofs.whole.lay_out_empty.Goals.{else-not-here, then-not-here+then-not-here-2}

pub loop-place-preserved : goal.loop-place-preserved
loop-place-preserved c =
    let held : List Held = c.args.held.now in
    elim c.if-not-here.branch [
      | then-not-here+then-not-here-2 w ↦ record {
        columns = λ second e.
            ap (λ (fs : List BlockView). columns_of held fs second) (w.first-is ∙ w.put_absent.ensures)
            ∙ laid_empty held c.loop-place.first second c.loop-place.place (absent_view w.index-shapes-place.result)
            (ap (λ (h : Held). h.first) (sym c.at-here.ensures) ∙ not-true c.at-here.result.first w.if-not-here.true)
            (ap (λ (h : Held). h.second) (sym c.at-here.ensures) ∙ not-true c.at-here.result.second w.if-not-here-2.true)
            ∙ c.loop-place.invariant.columns second e;
        len = ap length (w.first-is ∙ w.put_absent.ensures) ∙ length-set c.loop-place.first c.loop-place.place (absent_view w.index-shapes-place.result) ∙ c.loop-place.invariant.len;
      }
      | else-not-here w ↦ record {
        columns = λ second e. ap (λ (fs : List BlockView). columns_of held fs second) w.first-is ∙ c.loop-place.invariant.columns second e;
        len = ap length w.first-is ∙ c.loop-place.invariant.len;
      }
    ]
