use Rattle.pdc_aligner.proofs.ExactFrames as frames
use Rattle.pdc_aligner.proofs.laws.frames_are_exact.Goals as goal

pub returns-clause-exact : goal.returns-clause-exact
returns-clause-exact c = frames.frames_are_exact c.lives_are_runs.ensures c.present_exactly_where_given.ensures.rows

pub returns-clause-rows : goal.returns-clause-rows
returns-clause-rows c = frames.rows_are_sent

pub returns-clause-rise : goal.returns-clause-rise
returns-clause-rise c = frames.popped_rise c.lives_are_runs.ensures c.rows_rise.ensures.rise c.rows_rise.ensures.out
