use Rattle.std.proofs.Common.{◌∙◌, ◌+◌, ◌%◌, ◌≡◌, [], suc, ap, arith, sym}
use Rattle.pdc_row.specs.Quality.{quality_of, worst_of}
use Rattle.pdc_columns.specs.ColumnParts.{worst_kept}
use Rattle.pdc_columns.proofs.WholeRows.{none_present, qualities_once, quality_of_present, spare}
use Rattle.pdc_columns.proofs.row_blocks.worst_of_one.Goals as goal

pub returns-then-is_present-clause-value : goal.returns-then-is_present-clause-value
returns-then-is_present-clause-value c = λ held second g e.
    let more : c.from.result + 1 ≡ suc (c.args.quality % 16) = omega (arith, c.from.ensures) in
    ap (λ n. worst_of (worst_kept n) []) more
    ∙ sym (quality_of_present (c.args.quality % 16) c.args.first.now c.loop-place.place spare (omega arith) (sym (c.is_present.ensures spare) ∙ c.if-is_present.true))
    ∙ ap quality_of (sym (qualities_once held c.args.quality c.args.first.now second e g))

pub returns-clause-value : goal.returns-clause-value
returns-clause-value c = λ held second g e.
    ap quality_of (sym (none_present (c.args.quality % 16) c.args.first.now spare (λ i l. c.loop-place.invariant i spare (omega arith))))
    ∙ ap quality_of (sym (qualities_once held c.args.quality c.args.first.now second e g))
