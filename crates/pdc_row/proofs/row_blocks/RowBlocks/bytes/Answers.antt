use Rattle.std.proofs.Common.{◌∙◌, ap, arith, take, subst}
use Rattle.pdc_block.specs.pdc_cfg.pdc_frame.Bytes.{AreBytes}
use Rattle.std.proofs.lemmas.List.{length-take-le}
use Rattle.pdc_row.specs.KeptBlocks.{bytes_of}
use Rattle.pdc_row.proofs.KeptLemmas.{spelled}
use Rattle.pdc_row.proofs.row_blocks.RowBlocks.bytes.Goals as goal

pub returns-clause-bytes : goal.returns-clause-bytes
returns-clause-bytes c =
    c.first-bytes.ensures ∙ spelled c.bodies_are_their_words.ensures.words (take c.self.inside.count c.self.inside.shapes) (take c.self.inside.len c.self.inside.room) (subst AreBytes c.first-bytes.ensures c.are_bytes.ensures)
    (length-take-le c.self.inside.len c.self.inside.room (omega (arith, c.self.invariant.room, c.self.invariant.fits)) ∙ c.self.invariant.size)
    ∙ ap bytes_of c.self.view_is
