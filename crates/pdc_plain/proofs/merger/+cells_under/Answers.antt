use Rattle.std.proofs.Common.{◌++◌, ◌∷◌, [], ◌∙◌, List, ℕ, ap, cond, map, sym, Option}
use Rattle.std.specs.Prelude.{option_map}
use Rattle.std.specs.Option.{option_to_list}
use Rattle.pdc_block.specs.Block.{words_in}
use Rattle.pdc_cfg.specs.Section.{SectionFields, fields_of_view}
use Rattle.pdc_row.specs.CellView.{CellView}
use Rattle.pdc_life.specs.Merger.{is_in_force, merged_cells}
use Rattle.pdc_life.specs.Node.{cell_under}
use Rattle.pdc_plain_steps.specs.Views.{given_view, life_view, part_view}
use Rattle.pdc_arrival.specs.Views.{section_part}
use Rattle.pdc_arrival.specs.declared.arrival.ColumnSection.{ColumnSection}
use Rattle.pdc_plain.proofs.Merged.{merged_step}
use Rattle.pdc_plain.proofs.merger.+cells_under.Goals as goal

-- the cell of the first section stands before those of the others
pub returns : goal.returns
returns t c =
    let g = given_view c.args.given.now in
    let E = life_view c.args.life.now in
    let q = c.args.quality in
    let first = c.in-Some.first.now in
    let later : List (ℕ × SectionFields) = map section_part c.in-Some.later.now in
    let front : List ℕ = c.split_at.result.0.now in
    let back : List ℕ = c.split_at.result.1.now in
    c.in_ok-put_first.ensures
    ∙ ap (λ (cells : List (ℕ × CellView)). option_to_list (option_map part_view c.cell_in_force.result) ++ cells) c.in_ok-cells.ensures
    ∙ ap (λ (cells : List (ℕ × CellView)). cells ++ merged_cells g E q later (words_in back))
    (c.cell_in_force.ensures
    ∙ ap (λ (in_force : Option SectionFields). cond (is_in_force (fields_of_view first.section) in_force) ((first.column, cell_under (fields_of_view first.section) q (words_in front)) ∷ []) [])
    c.section_in_force-in_force.ensures)
    ∙ merged_step c.words_are_cut.ensures g E q (section_part first) later c.word_count.result front back c.args.blocks.now c.word_count.ensures.value c.split_at.ensures.front c.split_at.ensures.back
    ∙ ap (λ (sections : List ColumnSection). merged_cells g E q (map section_part sections) (words_in c.args.blocks.now)) (sym c.in-Some.ensures.cases.0)
