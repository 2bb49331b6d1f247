use Rattle.pdc_columns.proofs.ColumnParts.{lane_dropped}
use Rattle.pdc_columns.proofs.columns.Columns.forget_lane.Goals as goal

pub returns : goal.returns
returns c = lane_dropped c.args.self.now c.args.lane c.self.inside.held c.forget_lane.new.self c.self.inside.first.value.blocks c.self.inside.second.value c.self.view_is c.forget_lane.ensures
