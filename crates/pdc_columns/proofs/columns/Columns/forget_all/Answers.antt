use Rattle.pdc_columns.proofs.ColumnParts.{all_dropped}
use Rattle.pdc_columns.proofs.columns.Columns.forget_all.Goals as goal

pub returns : goal.returns
returns c = all_dropped c.args.self.now c.self.inside.held c.fill.new.self c.self.inside.first.value.blocks c.self.inside.second.value c.self.view_is c.fill.ensures c.self.invariant.first c.self.invariant.second
