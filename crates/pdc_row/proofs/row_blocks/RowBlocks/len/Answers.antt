use Rattle.std.proofs.Common.{◌∙◌, ap, arith, length, sym, take}
use Rattle.pdc_row.proofs.KeptLemmas.{kept}
use Rattle.pdc_row.proofs.row_blocks.RowBlocks.len.Goals as goal

pub returns : goal.returns
returns c =
    sym (kept c.self.inside.count c.self.inside.shapes (take c.self.inside.len c.self.inside.room) (omega (arith, c.self.invariant.few, c.self.invariant.places)))
    ∙ ap length c.self.view_is
