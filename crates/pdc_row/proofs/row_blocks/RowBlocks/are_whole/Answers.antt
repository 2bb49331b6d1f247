use Rattle.std.proofs.Common.{◌∙◌, arith, subst, take}
use Rattle.pdc_block.specs.pdc_cfg.pdc_frame.Bytes.{AreBytes}
use Rattle.std.proofs.lemmas.List.{length-take-le}
use Rattle.pdc_row.specs.KeptBlocks.{AreWhole}
use Rattle.pdc_row.proofs.KeptLemmas.{whole}
use Rattle.pdc_row.proofs.row_blocks.RowBlocks.are_whole.Goals as goal

pub returns : goal.returns
returns c =
    subst AreWhole c.self.view_is
    (whole c.bodies_are_their_words.ensures.words (take c.self.inside.count c.self.inside.shapes) (take c.self.inside.len c.self.inside.room) (subst AreBytes c.first.ensures c.are_bytes.ensures)
    (length-take-le c.self.inside.len c.self.inside.room (omega (arith, c.self.invariant.room, c.self.invariant.fits)) ∙ c.self.invariant.size))
