use Rattle.std.proofs.Common.{◌≡◌, ◌∙◌, ◌+◌, ◌<◌, ◌++◌, ℕ, List, Some, ap, arith, drop, get_or, length, map, set, sym, take}
use Rattle.std.specs.Option.{option_to_list}
use Rattle.std.specs.Prelude.{option_map}
use Rattle.pdc_row.specs.pdc_cfg.declared.shape.Shape.{Shape}
use Rattle.pdc_row.specs.CellView.{BlockView}
use Rattle.pdc_row.specs.KeptBlocks.{shapes_of}
use Rattle.pdc_row.specs.Quality.{time_quality_of, worst_of}
use Rattle.pdc_columns.specs.Chosen.{block_in, chosen_of}
use Rattle.pdc_columns.specs.ColumnParts.{column_of, columns_of, nothing, worst_kept}
use Rattle.pdc_columns.specs.Giving.{blocks_of, qualities_of}
use Rattle.pdc_columns.specs.declared.column.Held.{Held}
use Rattle.pdc_columns.proofs.WholeRows.{all_over, at_over, count_over, shape_at, spare, step_over, whole_at, whole_count, whole_qualities}
use Rattle.pdc_columns.proofs.row_blocks.give_over.Goals as goal

-- the blocks that the columns give
abbrev blocks_given : List Held → (first second : List BlockView) → List BlockView
blocks_given held first second = blocks_of (map (λ (s : Shape). Some s) (shapes_of first)) (columns_of held first second)

pub loop-place-init : goal.loop-place-init
loop-place-init c = record {
  blocks = sym (c.front_of_first-front.ensures.blocks c.args.second.now c.requires.second);
  quality = c.front_of_first-front.ensures.quality c.args.second.now c.requires.second;
  fits = c.front_of_first-front.ensures.fits;
}

pub give_one_over-above-requires-clause-first : goal.give_one_over-above-requires-clause-first
give_one_over-above-requires-clause-first c =
    omega (
      arith,
      c.loop-place-test.true,
      c.len-place-end.ensures,
      ap length c.loop-place.invariant.blocks,
      count_over (blocks_given c.args.held.now c.args.blocks.now c.args.second.now) c.args.blocks.now c.loop-place.place (whole_count c.args.held.now c.args.blocks.now c.args.second.now c.requires.first c.requires.second),
    )

pub loop-place-preserved : goal.loop-place-preserved
loop-place-preserved c =
    let held : List Held = c.args.held.now in
    let first : List BlockView = c.args.blocks.now in
    let second : List BlockView = c.args.second.now in
    let place : ℕ = c.loop-place.place in
    let given : List BlockView = blocks_given held first second in
    let other : BlockView = get_or second place spare in
    let inside : place < length first = omega (arith, c.loop-place-test.true, c.len-place-end.ensures) in
    let count : length given ≡ length first = whole_count held first second c.requires.first c.requires.second in
    let here : get_or c.loop-place.blocks place spare ≡ get_or first place spare =
    ap (λ (bs : List BlockView). get_or bs place spare) c.loop-place.invariant.blocks ∙ at_over given first place spare (omega (arith, inside, count)) inside in
    let one : block_in (get_or c.loop-place.blocks place spare).shape (column_of c.at.result (get_or c.loop-place.blocks place spare) other) ≡ get_or given place spare =
    ap (λ (b : BlockView). block_in b.shape (column_of c.at.result b other)) here
    ∙ ap (λ (h : Held). block_in (get_or first place spare).shape (column_of h (get_or first place spare) other)) c.at.ensures
    ∙ ap (λ (s : Shape). block_in s (column_of (get_or held place nothing) (get_or first place spare) other)) (sym (shape_at first place spare))
    ∙ sym (whole_at held first second place spare spare.shape inside c.requires.first c.requires.second) in
    record {
      blocks =
          c.give_one_over-above.ensures.blocks spare
          ∙ ap (λ (b : BlockView). set c.loop-place.blocks place b) one
          ∙ ap (λ (bs : List BlockView). set bs place (get_or given place spare)) c.loop-place.invariant.blocks
          ∙ step_over given first place spare (omega (arith, inside, count)) inside;
      quality =
          let rest : List ℕ = qualities_of (drop (place + 1) (map (λ (s : Shape). Some s) (shapes_of first))) (drop (place + 1) (columns_of held first second)) in
          c.give_one_over-above.ensures.quality spare rest
          ∙ ap (λ (b : BlockView). worst_of (worst_kept c.loop-place.above) (option_to_list (option_map time_quality_of (chosen_of (column_of c.at.result b other))) ++ rest)) here
          ∙ ap (λ (h : Held). worst_of (worst_kept c.loop-place.above) (option_to_list (option_map time_quality_of (chosen_of (column_of h (get_or first place spare) other))) ++ rest)) c.at.ensures
          ∙ ap (worst_of (worst_kept c.loop-place.above)) (sym (whole_qualities held first second place spare spare.shape inside c.requires.first c.requires.second))
          ∙ c.loop-place.invariant.quality;
      fits = c.give_one_over-above.ensures.fits;
    }

pub returns-clause-blocks : goal.returns-clause-blocks
returns-clause-blocks c =
    let first : List BlockView = c.args.blocks.now in
    let given : List BlockView = blocks_given c.args.held.now first c.args.second.now in
    let all : c.loop-place.place ≡ length first = omega (arith, c.loop-place.auto.place-end, c.len-place-end.ensures) in
    c.loop-place.invariant.blocks
    ∙ ap (λ n. take n given ++ drop n first) all
    ∙ all_over given first (whole_count c.args.held.now first c.args.second.now c.requires.first c.requires.second)
