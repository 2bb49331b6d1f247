use Rattle.std.proofs.Common.{◌≡◌, ◌∙◌, ◌++◌, List, ap, ap₂, subst, sym}
use Rattle.pdc_row.specs.CellView.{BlockView}
use Rattle.pdc_row.specs.KeptBlocks.{bytes_of}
use Rattle.pdc_row.specs.Layout.{wire_of}
use Rattle.pdc_row.specs.RowView.{RowView, row_view}
use Rattle.pdc_row.specs.declared.due_row.DueRow.{DueRow}
use Rattle.pdc_publisher.specs.Published.{Fits}
use Rattle.pdc_publisher.proofs.published_row.PublishedRow.show.Goals as goal

-- the row with these blocks
abbrev with_blocks : DueRow → List BlockView → RowView
with_blocks row blocks = record { instant = row.instant; start = row.start; change = row.change; quality = row.quality; blocks = blocks }

pub invariant_of-self : goal.invariant_of-self
invariant_of-self g c =
    let p = c.args.self.now in
    let blocks : c.show_framed.new.self ≡ p.row.value.blocks = c.show_framed.ensures.same ∙ ap (λ (r : DueRow). r.blocks) c.get_mut.ensures.value in
    let same : with_blocks c.get_mut.result.now c.show_framed.new.self ≡ row_view p.row.value = ap₂ with_blocks c.get_mut.ensures.value blocks in
    record {
      framed = ap (λ (bs : List BlockView). p.ends.front ++ (bytes_of bs ++ p.ends.check)) blocks ∙ p.framed ∙ ap (wire_of p.output) (sym same);
      fits = subst (λ (r : RowView). ∥ Fits p.output r ∥₁) (sym same) p.fits;
    }
