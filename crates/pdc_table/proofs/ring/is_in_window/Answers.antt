use Rattle.std.proofs.Common.{◌≡◌, ap, arith, get_or, sym, ◌∙◌}
use Rattle.std.proofs.Math.Nat.{mod-lt}
use Rattle.std.proofs.lemmas.Bool.{eq-eqb}
use Rattle.std.proofs.lemmas.List.{get_or_default}
use Rattle.pdc_table.specs.RingRows.{row_in}
use Rattle.pdc_open_row.specs.Views.{OpenRowView, blank_row}
use Rattle.pdc_table.proofs.HeldNear.{held_behind, near_held}
use Rattle.pdc_table.proofs.ring.is_in_window.Goals as goal

pub returns-then-instant-here : goal.returns-then-instant-here
returns-then-instant-here c =
    let row : c.item.result.now ≡ row_in c.args.rows.now.places.items c.args.here.now.window c.args.here.now.instant =
    c.item.ensures
    ∙ get_or_default c.args.rows.now.places.items c.args.here.now.place c.item.result.now (blank_row 0 0 0)
    (omega (arith, c.args.here.now.known, mod-lt c.args.here.now.instant c.args.here.now.least, c.requires.size))
    ∙ ap (λ k. get_or c.args.rows.now.places.items k (blank_row 0 0 0)) c.args.here.now.known in
    let here : (row_in c.args.rows.now.places.items c.args.here.now.window c.args.here.now.instant).instant ≡ c.args.here.now.instant =
    sym (ap (λ (r : OpenRowView). r.instant) row) ∙ sym c.instant.ensures ∙ c.if-instant-here.true in
    eq-eqb c.instant.result c.args.here.now.instant c.if-instant-here.true
    ∙ sym (near_held c.numbers_rise.ensures c.args.here.now.window c.args.here.now.instant 0 _ c.args.here.now.least c.requires.rising c.requires.held_near
    (held_behind c.args.here.now.instant c.args.closed.now.items c.args.rows.now.open.items (c.requires.known here)))
