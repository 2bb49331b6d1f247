use Rattle.std.proofs.Common.{List, ℕ, ◌∙◌, arith, sym, take, subst}
use Rattle.pdc_block.specs.Block.{IsCut}
use Rattle.pdc_block.specs.pdc_cfg.pdc_frame.Bytes.{AreBytes}
use Rattle.std.proofs.lemmas.List.{length-take-le}
use Rattle.pdc_row.specs.KeptBlocks.{blocks_in}
use Rattle.pdc_row.proofs.KeptLemmas.{blocks_are, is_cut, kept_words, shapes_are}
use Rattle.pdc_row.proofs.row_blocks.RowBlocks.to_blocks.Goals as goal

pub returns-in-Ok : goal.returns-in-Ok
returns-in-Ok c =
    blocks_are c.in-Ok.blocks.items (blocks_in (take c.self.inside.count c.self.inside.shapes) (take c.self.inside.len c.self.inside.room))
    (c.in-Ok.ensures.shapes ∙ sym (shapes_are (take c.self.inside.count c.self.inside.shapes) (take c.self.inside.len c.self.inside.room)))
    (c.in-Ok.ensures.only (kept_words (take c.self.inside.count c.self.inside.shapes) (take c.self.inside.len c.self.inside.room))
    (subst (λ (bytes : List ℕ). IsCut (take c.self.inside.count c.self.inside.shapes) bytes (kept_words (take c.self.inside.count c.self.inside.shapes) (take c.self.inside.len c.self.inside.room))) (sym c.first-bytes.ensures) (is_cut c.bodies_are_their_words.ensures.words (take c.self.inside.count c.self.inside.shapes) (take c.self.inside.len c.self.inside.room) (subst AreBytes c.first-bytes.ensures c.are_bytes.ensures)
    (length-take-le c.self.inside.len c.self.inside.room (omega (arith, c.self.invariant.room, c.self.invariant.fits)) ∙ c.self.invariant.size))))
    ∙ c.self.view_is

pub returns-in-Err : goal.returns-in-Err
returns-in-Err c =
    absurd (c.in-Err.ensures.only (kept_words (take c.self.inside.count c.self.inside.shapes) (take c.self.inside.len c.self.inside.room))
    (subst (λ (bytes : List ℕ). IsCut (take c.self.inside.count c.self.inside.shapes) bytes (kept_words (take c.self.inside.count c.self.inside.shapes) (take c.self.inside.len c.self.inside.room))) (sym c.first-bytes.ensures) (is_cut c.bodies_are_their_words.ensures.words (take c.self.inside.count c.self.inside.shapes) (take c.self.inside.len c.self.inside.room) (subst AreBytes c.first-bytes.ensures c.are_bytes.ensures)
    (length-take-le c.self.inside.len c.self.inside.room (omega (arith, c.self.invariant.room, c.self.invariant.fits)) ∙ c.self.invariant.size))))
