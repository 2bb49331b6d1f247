use Rattle.std.proofs.Common.{arith}
use Rattle.pdc_words.proofs.LaneSteps.{turned_left}
use Rattle.pdc_words.proofs.lanes.lanes_left.Goals as goal

pub returns : goal.returns
returns c = λ check h. turned_left c.args.q.now c.args.at c.args.bytes.now c.read_lane.result c.read_lane-2.result c.read_lane-3.result c.read_lane-4.result c.read_lane-5.result c.read_lane-6.result c.read_lane-7.result c.read_lane-8.result c.read_lane-9.result c.read_lane-10.result c.read_lane-11.result c.read_lane-12.result c.read_lane-13.result c.read_lane-14.result c.read_lane-15.result c.read_lane-16.result check
    c.requires.lanes (λ i. omega (arith, c.type_inv.bytes i)) c.requires.at
    c.read_lane.ensures c.read_lane-2.ensures c.read_lane-3.ensures c.read_lane-4.ensures c.read_lane-5.ensures c.read_lane-6.ensures c.read_lane-7.ensures c.read_lane-8.ensures c.read_lane-9.ensures c.read_lane-10.ensures c.read_lane-11.ensures c.read_lane-12.ensures c.read_lane-13.ensures c.read_lane-14.ensures c.read_lane-15.ensures c.read_lane-16.ensures h
