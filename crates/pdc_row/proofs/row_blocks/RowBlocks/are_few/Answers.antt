use Rattle.std.proofs.Common.{ap, arith, length, take}
use Rattle.pdc_row.proofs.KeptLemmas.{kept}
use Rattle.pdc_row.proofs.row_blocks.RowBlocks.are_few.Goals as goal

pub returns : goal.returns
returns c =
    let i = c.self.inside in
    omega (arith, ap length c.self.view_is, c.self.invariant.few, kept i.count i.shapes (take i.len i.room) (omega (arith, c.self.invariant.few, c.self.invariant.places)))
