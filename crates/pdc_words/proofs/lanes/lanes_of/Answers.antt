use Rattle.std.proofs.Common.{arith, ◌/◌, ◌%◌, ◌^◌}
use Rattle.pdc_words.proofs.LaneSteps.{turned_first}
use Rattle.pdc_words.proofs.lanes.lanes_of.Goals as goal

pub returns : goal.returns
returns c = turned_first c.args.state (c.args.state / 2 ^ 64) (c.args.state % 2 ^ 64) _ _ (omega arith) (omega (arith, c.ranges.state.fits)) (omega arith) c.lane_of.ensures c.lane_of-2.ensures
