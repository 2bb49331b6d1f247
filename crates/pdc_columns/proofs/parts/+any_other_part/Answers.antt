use Rattle.std.proofs.Common.{◌*◌, ◌∙◌, ℕ, ap, drop, length, rules}
use Rattle.pdc_row.specs.pdc_cfg.Shape.{word_count_of}
use Rattle.pdc_columns.proofs.CutParts.{IsFirstOf, later_exist, later_len}
use Rattle.pdc_columns.proofs.parts.+any_other_part.Goals as goal

pub any_other_part-requires : goal.any_other_part-requires
any_other_part-requires g t c κs within =
    let first : IsFirstOf g.P.Part.shape_of c.in-Some.part.now c.args.parts.now c.in-Some.later.now c.args.bytes.now c.split_at.result.1.now =
    record {
      first = c.in-Some.ensures.cases.0;
      behind = c.split_at.ensures.back ∙ ap (λ (n : ℕ). drop (2 * n) c.args.bytes.now) (c.word_count.ensures.value ∙ ap word_count_of c.shape-shape.ensures);
    } in (
      search rules,
      (
        search rules,
        (
          later_len g.P.Part.shape_of c.in-Some.part.now c.args.parts.now c.in-Some.later.now c.args.bytes.now c.split_at.result.1.now first c.requires.size,
          later_exist g.P.Part.column_of g.P.Part.shape_of (length c.args.columns.now) c.args.quality c.in-Some.part.now c.args.parts.now c.in-Some.later.now c.args.bytes.now c.split_at.result.1.now c.words_are_cut.ensures first c.requires.columns,
        ),
      ),
    )
