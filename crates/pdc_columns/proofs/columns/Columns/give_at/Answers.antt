use Rattle.std.proofs.Common.{ℕ, ◌≡◌, ◌+◌, ◌++◌, ◌∷◌, [], ◌∙◌, List, None, Some, ap, append-nil, drop, get_or, refl, sym}
use Rattle.std.specs.Prelude.{option_map}
use Rattle.std.specs.Option.{option_to_list}
use Rattle.std.proofs.lemmas.List.{get_or_default}
use Rattle.pdc_row.specs.CellView.{BlockView}
use Rattle.pdc_row.specs.Chosen.{block_or_absent}
use Rattle.pdc_row.specs.Quality.{time_quality_of, worst_of}
use Rattle.pdc_columns.specs.ColumnParts.{worst_kept}
use Rattle.pdc_columns.specs.Giving.{blocks_at, blocks_of, qualities_at, qualities_of}
use Rattle.pdc_columns.specs.Views.{ColumnView, empty_column}
use Rattle.pdc_columns.proofs.RowSteps.{blocks_more, qualities_step}
use Rattle.pdc_columns.proofs.columns.Columns.give_at.Goals as goal

pub returns-in-Some-clause-blocks : goal.returns-in-Some-clause-blocks
returns-in-Some-clause-blocks c =
    let place : ℕ = c.args.place in
    let shape : Some c.in-Some.shape ≡ get_or c.args.shapes.now place None = sym c.in-Some.is ∙ get_or_default c.args.shapes.now place _ None c.requires.place in
    let front : List BlockView = c.args.blocks.now in
    blocks_more c.args.shapes.now c.args.self.now place front c.give.new.blocks
    (front ++ blocks_of (drop place c.args.shapes.now) (drop place c.args.self.now)) c.requires.place
    (c.give.ensures.blocks
    ∙ ap (λ o. front ++ block_or_absent c.in-Some.shape o ∷ []) c.chosen_at.ensures
    ∙ ap (λ o. front ++ blocks_at o (get_or c.args.self.now place empty_column)) shape)
    refl

pub returns-in-Some-clause-quality : goal.returns-in-Some-clause-quality
returns-in-Some-clause-quality c =
    let place : ℕ = c.args.place in
    let shape : Some c.in-Some.shape ≡ get_or c.args.shapes.now place None = sym c.in-Some.is ∙ get_or_default c.args.shapes.now place _ None c.requires.place in
    let rest : List ℕ = qualities_of (drop (place + 1) c.args.shapes.now) (drop (place + 1) c.args.self.now) in
    c.give.ensures.quality rest
    ∙ ap (λ o. worst_of (worst_kept c.args.above) (option_to_list (option_map time_quality_of o) ++ rest)) c.chosen_at.ensures
    ∙ ap (λ o. worst_of (worst_kept c.args.above) (qualities_at o (get_or c.args.self.now place empty_column) ++ rest)) shape
    ∙ ap (worst_of (worst_kept c.args.above)) (sym (qualities_step c.args.shapes.now c.args.self.now place c.requires.place))

-- a column without a shape gives nothing
pub returns-in-None-clause-blocks : goal.returns-in-None-clause-blocks
returns-in-None-clause-blocks c =
    let place : ℕ = c.args.place in
    let shape : None ≡ get_or c.args.shapes.now place None = sym c.in-None.is ∙ get_or_default c.args.shapes.now place _ None c.requires.place in
    let front : List BlockView = c.args.blocks.now in
    let column : ColumnView = get_or c.args.self.now place empty_column in
    blocks_more c.args.shapes.now c.args.self.now place front front
    (front ++ blocks_of (drop place c.args.shapes.now) (drop place c.args.self.now)) c.requires.place
    (sym (append-nil front) ∙ ap (λ o. front ++ blocks_at o column) shape) refl

pub returns-in-None-clause-quality : goal.returns-in-None-clause-quality
returns-in-None-clause-quality c =
    let place : ℕ = c.args.place in
    let shape : None ≡ get_or c.args.shapes.now place None = sym c.in-None.is ∙ get_or_default c.args.shapes.now place _ None c.requires.place in
    let column : ColumnView = get_or c.args.self.now place empty_column in
    let rest : List ℕ = qualities_of (drop (place + 1) c.args.shapes.now) (drop (place + 1) c.args.self.now) in
    ap (λ o. worst_of (worst_kept c.args.above) (qualities_at o column ++ rest)) shape
    ∙ ap (worst_of (worst_kept c.args.above)) (sym (qualities_step c.args.shapes.now c.args.self.now place c.requires.place))
