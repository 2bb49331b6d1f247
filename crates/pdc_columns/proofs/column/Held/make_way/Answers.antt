use Rattle.std.proofs.Common.{None, ap, get_or}
use Rattle.pdc_row.specs.CellView.{BlockView}
use Rattle.pdc_columns.specs.ColumnParts.{block_of_second}
use Rattle.pdc_columns.specs.Views.{kept}
use Rattle.pdc_columns.proofs.Alike.{stays}
use Rattle.pdc_columns.proofs.column.Held.make_way.Goals as goal

pub returns-then-self-clause-column : goal.returns-then-self-clause-column
returns-then-self-clause-column g c = λ default.
    let own : BlockView = block_of_second c.args.self.now (get_or c.args.first.now c.args.place default) (get_or c.args.second.now c.args.place default) in
    rw (c.meet.ensures.held default)
    (ap (λ (b : BlockView). record { first = None; second = kept c.args.self.now.second (record { block = b; quality = c.args.self.now.second_quality }) })
    (stays c.args.self.now own (g.B.Offered.view c.args.block.now) (get_or c.meet.new.second c.args.place default) (c.meet.ensures.block default)))
