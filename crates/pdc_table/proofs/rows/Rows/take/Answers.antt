use Rattle.std.proofs.Common.{◌≡◌, ◌∙◌, ap, arith, get_or, length, subst, sym}
use Rattle.std.proofs.Math.Nat.{mod-lt}
use Rattle.std.proofs.lemmas.List.{get_or_default}
use Rattle.pdc_open_row.specs.pdc_columns.Twin.{IsTwin}
use Rattle.pdc_open_row.specs.Views.{OpenRowView, blank_row}
use Rattle.pdc_table.specs.RingRows.{row_in}
use Rattle.pdc_table.proofs.RingAges.{twin_met}
use Rattle.pdc_open_row.proofs.pdc_columns.Twins.{twin_blank}
use Rattle.pdc_table.proofs.rows.Rows.take.Goals as goal
use Rattle.pdc_table.proofs.rows.Rows.take.Goals.{then-instant-here, else-instant-here}

pub offer-requires-clause-twin : goal.offer-requires-clause-twin
offer-requires-clause-twin g c =
    let twin = g.C.Blocks.twin c.args.blocks.now in
    let row : OpenRowView = row_in c.args.self.now.places.items c.args.here.now.window c.args.here.now.instant in
    elim c.if-instant-here.branch [
      | then-instant-here w ↦
          subst (λ (r : OpenRowView). IsTwin twin r.columns) (sym (w.row-is ∙ w.begin.ensures)) (twin_blank twin (length c.item_mut-row.result.now.columns))
      | else-instant-here w ↦
          let found : c.item_mut-row.result.now ≡ row =
          c.item_mut-row.ensures.value
          ∙ ap (λ rows. get_or rows c.args.here.now.place c.item_mut-row.result.now) c.make_ready.ensures.items
          ∙ get_or_default c.args.self.now.places.items c.args.here.now.place c.item_mut-row.result.now (blank_row 0 0 0)
          (omega (arith, c.args.here.now.known, mod-lt c.args.here.now.instant c.args.here.now.least, c.requires.size))
          ∙ ap (λ k. get_or c.args.self.now.places.items k (blank_row 0 0 0)) c.args.here.now.known in
          let is : c.if-instant-here.row ≡ row = w.row-is ∙ found in
          let same : row.instant ≡ c.args.here.now.instant = sym (ap (λ (r : OpenRowView). r.instant) found) ∙ sym c.instant.ensures ∙ w.if-instant-here.false in
          subst (λ (r : OpenRowView). IsTwin twin r.columns) (sym is) (twin_met twin c.args.here.now.instant row same c.requires.twin)
    ]
