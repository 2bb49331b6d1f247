use Rattle.std.proofs.Common.{◌*◌, ◌<◌, ◌∙◌, ◌∷◌, [], ℕ, Some, ap, drop, get_or, length, rules, subst, sym}
use Rattle.std.proofs.lemmas.List.{length-set}
use Rattle.std.specs.List.{AllByRecursion}
use Rattle.pdc_row.specs.pdc_block.Block.{words_in}
use Rattle.pdc_row.specs.pdc_cfg.Shape.{word_count_of}
use Rattle.pdc_row.specs.CellView.{CellView}
use Rattle.pdc_columns.specs.Parts.{cut_cells}
use Rattle.pdc_columns.specs.Taking.{any_second, with_cell}
use Rattle.pdc_columns.specs.Views.{empty_column}
use Rattle.pdc_columns.proofs.CutParts.{IsFirstOf, later_exist, later_len}
use Rattle.pdc_columns.proofs.ColumnParts.{seconds_kept}
use Rattle.pdc_columns.proofs.parts.+put_parts.Goals as goal

pub put_parts-requires : goal.put_parts-requires
put_parts-requires g t c κs within =
    let first : IsFirstOf g.P.Part.shape_of c.in-Some.part.now c.args.parts.now c.in-Some.later.now c.args.bytes.now c.split_at.result.1.now =
    record {
      first = c.in-Some.ensures.cases.0;
      behind = c.split_at.ensures.back ∙ ap (λ (n : ℕ). drop (2 * n) c.args.bytes.now) (c.word_count.ensures.value ∙ ap word_count_of c.shape-shape.ensures);
    } in
    let cell : CellView = record { block = record { shape = c.shape-shape.result; words = words_in c.split_at.result.0.now }; quality = c.args.quality } in (
      search rules,
      (
        search rules,
        (
          later_len g.P.Part.shape_of c.in-Some.part.now c.args.parts.now c.in-Some.later.now c.args.bytes.now c.split_at.result.1.now first c.requires.size,
          (
            subst (λ (n : ℕ). AllByRecursion (λ (cell : ℕ × CellView). cell.0 < n) (cut_cells g.P.Part.column_of g.P.Part.shape_of c.in-Some.later.now c.args.quality (words_in c.split_at.result.1.now)))
                (sym (ap length c.put_one.ensures ∙ length-set c.args.columns.now c.column.result (with_cell c.args.lane (Some cell) (get_or c.args.columns.now c.column.result empty_column))))
                (later_exist g.P.Part.column_of g.P.Part.shape_of (length c.args.columns.now) c.args.quality c.in-Some.part.now c.args.parts.now c.in-Some.later.now c.args.bytes.now c.split_at.result.1.now c.words_are_cut.ensures first c.requires.columns),
            λ e. (
              (c.requires.alone e).0,
              ap any_second c.put_one.ensures ∙ seconds_kept c.args.lane ((c.column.result, cell) ∷ []) c.args.columns.now (c.requires.alone e).0 ∙ (c.requires.alone e).1,
            ),
          ),
        ),
      ),
    )
