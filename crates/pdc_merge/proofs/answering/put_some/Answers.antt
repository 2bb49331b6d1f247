use Rattle.std.proofs.Common.{◌≡◌, ◌∙◌, ◌-◌, ℕ, List, ap, arith, drop, length, subst, sym, take}
use Rattle.std.proofs.lemmas.List.{length-drop, take_all}
use Rattle.pdc_block.specs.Block.{words_in}
use Rattle.pdc_row.specs.CellView.{CellView}
use Rattle.pdc_table.specs.Content.{IsPut}
use Rattle.pdc_table.specs.pdc_columns.Taking.{body_cells_of}
use Rattle.pdc_merge.specs.Cells.{cells_in}
use Rattle.pdc_merge.specs.declared.held_layout.HeldSection.{HeldSection}
use Rattle.pdc_merge.proofs.Placed.{is_put}
use Rattle.pdc_merge.proofs.answering.put_some.Goals as goal

behind_own : (bytes : List ℕ) → take (length bytes - 14) (drop 14 bytes) ≡ drop 14 bytes
behind_own bytes = take_all (length bytes - 14) (drop 14 bytes) (omega (arith, length-drop 14 bytes))

pub put-requires : goal.put-requires
put-requires g c =
    let a = c.args.alignment.now.state in
    let q = c.args.quality in
    let payload = c.args.payload.now in
    let rest : List ℕ = take (length payload - 14) (drop 14 payload) in
    let cells : body_cells_of (take c.write_cells-count.result c.write_cells-count.new.cells) q ≡ cells_in a q c.args.layout.now.sections (drop 7 (words_in payload)) =
    c.write_cells-count.ensures.cells q
    ∙ ap (λ (sections : List HeldSection). cells_in a q sections (words_in rest)) c.sections.ensures.sections
    ∙ ap (cells_in a q c.args.layout.now.sections) (ap words_in (behind_own payload) ∙ c.words_are_cut.ensures.behind 7 payload) in
    subst (λ (cs : List (ℕ × CellView)). IsPut a.content c.args.stream cs) (sym cells)
    (is_put a c.args.stream q c.args.layout.now.sections (drop 7 (words_in payload)) c.requires.each c.requires.lanes c.requires.stream c.requires.in_place)
