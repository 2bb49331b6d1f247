use Rattle.std.proofs.Common.{◌≡◌, ◌∙◌, ◌%◌, ◌<◌, ◌∷◌, ℕ, List, true, ap, arith, get_or, length, sym}
use Rattle.pdc_row.specs.CellView.{BlockView, is_present}
use Rattle.pdc_row.specs.Quality.{worst_of}
use Rattle.pdc_columns.specs.ColumnParts.{nothing, worst_kept}
use Rattle.pdc_columns.specs.declared.column.Held.{Held}
use Rattle.pdc_columns.proofs.FrontRows.{front_blocks, front_qualities}
use Rattle.pdc_columns.proofs.WholeRows.{not_other, spare}
use Rattle.pdc_columns.proofs.row_blocks.front_of_each.Goals as goal

pub loop-place-preserved : goal.loop-place-preserved
loop-place-preserved c =
    let held : List Held = c.args.held.now in
    let first : List BlockView = c.args.first.now in
    let place : ℕ = c.loop-place.place in
    let inside : place < length first = omega (arith, c.loop-place-test.true, c.len-place-end.ensures) in
    let held_first : (get_or held place nothing).first ≡ true = ap (λ (h : Held). h.first) (sym c.held_at-here.ensures) ∙ not_other c.held_at-here.result.first c.if-not-here.false in
    let present : is_present (get_or first place spare) ≡ true = sym (c.is_present.ensures spare) ∙ c.if-not-is_present.false in
    record {
      blocks = λ second e. front_blocks held first second place spare inside c.requires e held_first present (c.loop-place.invariant.blocks second e);
      quality = λ second e. front_qualities held first second place c.loop-place.above c.worse-above.result spare _ inside c.requires e held_first present
          (λ ns. c.worse-above.ensures.value ns ∙ ap (λ (h : Held). worst_of (worst_kept c.loop-place.above) (h.first_quality % 16 ∷ ns)) c.held_at-here.ensures)
          (c.loop-place.invariant.quality second e);
      fits = c.worse-above.ensures.fits;
    }
