use Rattle.std.proofs.Common.{◌∙◌, ap, sym, take}
use Rattle.pdc_row.specs.KeptBlocks.{shapes_of}
use Rattle.pdc_row.proofs.KeptLemmas.{shapes_are}
use Rattle.pdc_row.proofs.row_blocks.RowBlocks.shapes.Goals as goal

pub returns : goal.returns
returns c =
    let i = c.self.inside in
    sym (shapes_are (take i.count i.shapes) (take i.len i.room)) ∙ ap shapes_of c.self.view_is
