use Rattle.pdc_words.proofs.LongSteps.{long_congruent, long_low}
use Rattle.pdc_words.proofs.crc.long_moved_up.Goals as goal

pub returns-clause-congruent : goal.returns-clause-congruent
returns-clause-congruent c = long_congruent c.args.high c.args.low c.ranges.high.fits c.ranges.low.fits

pub returns-clause-low : goal.returns-clause-low
returns-clause-low c = long_low c.args.high c.args.low c.ranges.high.fits c.ranges.low.fits
