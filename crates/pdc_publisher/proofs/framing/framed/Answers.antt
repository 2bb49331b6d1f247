use Rattle.std.proofs.Common.{◌≡◌, ◌∙◌, ◌++◌, List, ap, subst, sym, ℕ}
use Rattle.pdc_row.specs.CellView.{BlockView}
use Rattle.pdc_row.specs.KeptBlocks.{AreWhole, bytes_of}
use Rattle.pdc_row.specs.Layout.{wire_of}
use Rattle.pdc_row.specs.RowView.{RowView, row_view}
use Rattle.pdc_row.specs.declared.due_row.DueRow.{DueRow}
use Rattle.pdc_row.specs.declared.output.Output.{Output}
use Rattle.pdc_publisher.specs.Published.{Fits}
use Rattle.pdc_publisher.proofs.Fitting.{fits_of}
use Rattle.pdc_publisher.proofs.framing.framed.Goals as goal

pub invariant_of-result : goal.invariant_of-result
invariant_of-result c =
    let output : Output = c.args.output.now in
    let old : DueRow = c.args.row.value in
    let new : DueRow = c.ends_of.new.row in
    let lent : c.get_mut.result.now ≡ old = c.get_mut.ensures.value in
    let same : row_view new ≡ row_view old = c.ends_of.ensures.same ∙ ap row_view lent in
    let whole : AreWhole old.blocks = subst (λ (r : DueRow). AreWhole r.blocks) c.get.ensures c.are_whole.ensures in
    let fits : Fits output (row_view new) = subst (Fits output) (sym same) (fits_of output old whole c.requires) in
    let front : List ℕ = c.ends_of.new.ends.front in
    let check : List ℕ = c.ends_of.new.ends.check in
    let blocks : new.blocks ≡ c.get_mut.result.now.blocks = ap (λ (r : RowView). r.blocks) c.ends_of.ensures.same in
    record {
      framed =
          ap (λ (bs : List BlockView). front ++ (bytes_of bs ++ check)) blocks ∙ c.ends_of.ensures.wire
          ∙ ap (wire_of output) (sym c.ends_of.ensures.same);
      fits = ∣ fits ∣₁;
    }
