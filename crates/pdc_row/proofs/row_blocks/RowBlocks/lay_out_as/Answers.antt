use Rattle.std.proofs.Common.{◌∙◌, ap, sym, take}
use Rattle.pdc_row.specs.KeptBlocks.{shapes_of}
use Rattle.pdc_row.proofs.KeptLemmas.{shapes_are}
use Rattle.pdc_row.proofs.row_blocks.RowBlocks.lay_out_as.Goals as goal

pub returns : goal.returns
returns c =
    shapes_are (take c.other.inside.count c.other.inside.shapes) (take c.other.inside.len c.self.inside.room)
    ∙ sym (shapes_are (take c.other.inside.count c.other.inside.shapes) (take c.other.inside.len c.other.inside.room))
    ∙ ap shapes_of c.other.view_is
