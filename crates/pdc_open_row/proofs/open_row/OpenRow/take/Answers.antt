use Rattle.std.proofs.Common.{◌∙◌, ap}
use Rattle.pdc_columns.specs.Taking.{any_second}
use Rattle.pdc_columns.proofs.ColumnParts.{seconds_kept}
use Rattle.pdc_open_row.proofs.open_row.OpenRow.take.Goals as goal

pub invariant_of-self-else-lane-ne0 : goal.invariant_of-self-else-lane-ne0
invariant_of-self-else-lane-ne0 g c = λ e.
    ap any_second c.put.ensures
    ∙ seconds_kept c.args.lane (g.C.Blocks.cells c.args.blocks.now c.args.quality) c.self.inside.columns c.if-lane-ne0.false
    ∙ c.self.invariant e
