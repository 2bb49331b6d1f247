use Rattle.std.proofs.Common.{◌≡◌, ◌<◌, ◌∙◌, ap, arith, get_or, sym, Some}
use Rattle.std.specs.Option.{option_map}
use Rattle.std.proofs.lemmas.List.{get_or_default}
use Rattle.std.proofs.lemmas.Option.{IfSome_then}
use Rattle.pdc_open_row.specs.pdc_columns.Twin.{lowest}
use Rattle.pdc_open_row.specs.Views.{OpenRowView, blank_row}
use Rattle.pdc_table.specs.Content.{streams_of}
use Rattle.pdc_table.specs.Placing.{row_at}
use Rattle.pdc_table.specs.Ring.{content_of}
use Rattle.pdc_table.specs.RingRows.{row_in}
use Rattle.pdc_table.specs.TableView.{TableView}
use Rattle.pdc_table.proofs.RingAges.{lowest_at}
use Rattle.pdc_table.proofs.ring_table.RingTableTable.lowest_blocks.Goals as goal

pub returns : goal.returns
returns c =
    let window = c.self.inside.circle.window in
    let places = c.self.inside.rows.places.items in
    let least : 0 < window = omega (arith, c.self.invariant.content.window_least) in
    let row : OpenRowView = row_in places window c.args.instant in
    let is : c.item-row.result.now ≡ row =
    c.item-row.ensures
    ∙ get_or_default places c.place_of.result c.item-row.result.now (blank_row 0 0 0) (omega (arith, c.place_of.ensures.bound, c.self.invariant.size))
    ∙ ap (λ k. get_or places k (blank_row 0 0 0)) c.place_of.ensures.value in
    let here : row.instant ≡ c.args.instant = sym (ap (λ (r : OpenRowView). r.instant) is) ∙ sym c.instant.ensures ∙ c.if-instant.false in
    let found : option_map (λ (r : OpenRowView). lowest r.columns) (row_at c.args.instant c.args.self.now.content.open_rows) ≡ Some (lowest row.columns) =
    ap (λ (t : TableView). option_map (λ (r : OpenRowView). lowest r.columns) (row_at c.args.instant t.content.open_rows)) (sym c.self.view_is)
    ∙ lowest_at window c.self.inside.closed.last (streams_of (content_of c.self.inside)) c.self.inside.columns c.args.instant places c.self.inside.rows.ages.items c.self.inside.rows.open.items least c.self.invariant.ages c.if-instant-self.false
    (record { size = c.self.invariant.size; each = c.self.invariant.each; placed = c.self.invariant.placed; known = c.self.invariant.known; stand = c.self.invariant.stand }) here in
    IfSome_then c.lowest_blocks.result c.lowest_blocks.ensures (λ b e. found ∙ ap (λ (r : OpenRowView). Some (lowest r.columns)) (sym is) ∙ ap Some (sym e))
