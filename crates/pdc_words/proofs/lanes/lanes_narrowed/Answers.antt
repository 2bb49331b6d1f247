use Rattle.pdc_words.proofs.LaneSteps.{turned_narrow}
use Rattle.pdc_words.proofs.lanes.lanes_narrowed.Goals as goal

pub returns : goal.returns
returns c = turned_narrow c.args.s.now c.pair.result c.pair-2.result c.pair-3.result c.pair-4.result c.pair-5.result c.pair-6.result c.pair-7.result c.pair-8.result c.long_moved_up-up.result.0 c.long_moved_up-up.result.1 c.long_moved_up-up-2.result.0 c.long_moved_up-up-2.result.1 c.long_moved_up-up-3.result.0 c.long_moved_up-up-3.result.1 c.wide_moved_up.result c.requires
    c.pair.ensures c.pair-2.ensures c.long_moved_up-up.ensures.congruent c.long_moved_up-up.ensures.low c.pair-3.ensures c.pair-4.ensures c.long_moved_up-up-2.ensures.congruent c.long_moved_up-up-2.ensures.low c.pair-5.ensures c.pair-6.ensures c.long_moved_up-up-3.ensures.congruent c.long_moved_up-up-3.ensures.low c.pair-7.ensures c.pair-8.ensures c.wide_moved_up.ensures
