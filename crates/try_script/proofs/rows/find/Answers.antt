use Rattle.std.proofs.Common.{◌∙◌, arith, sym, ap}
use Rattle.pdc_table.specs.pdc_open_row.Views.{OpenRowView, blank_row}
use Rattle.try_script.proofs.Places.{row_place, gap, no_row_place}
use Rattle.try_script.proofs.rows.find.Goals as goal

pub returns-then-place-rows : goal.returns-then-place-rows
returns-then-place-rows c =
    gap (blank_row c.args.places.streams c.args.places.columns c.args.instant) c.args.rows.now c.place-place.result c.requires (sym c.place-place.ensures.place) c.place-place.ensures.bound
    (λ h. absurd (omega arith))

pub returns-then-instant : goal.returns-then-instant
returns-then-instant c =
    row_place (blank_row c.args.places.streams c.args.places.columns c.args.instant) c.args.rows.now c.place-place.result c.index-rows-place.result c.requires (sym c.place-place.ensures.place) (omega arith)
    (ap (λ (r : OpenRowView). r.instant) (sym c.index-rows-place.is) ∙ sym c.instant.ensures ∙ c.if-instant.true)

pub returns-else-instant : goal.returns-else-instant
returns-else-instant c =
    no_row_place (blank_row c.args.places.streams c.args.places.columns c.args.instant) c.args.rows.now c.place-place.result c.index-rows-place.result c.requires (sym c.place-place.ensures.place) (omega arith)
    (λ e. c.if-instant.false (c.instant.ensures ∙ ap (λ (r : OpenRowView). r.instant) c.index-rows-place.is ∙ e))
