use Rattle.pdc_history.proofs.{Marks.{marks_bound}, Order.{adopted_counts_never_fall}}
use Rattle.pdc_history.proofs.laws.marks_bound_lives.Goals as goal

pub returns-clause-bound : goal.returns-clause-bound
returns-clause-bound c W H who is = marks_bound c.lives_are_known.ensures W H who is

pub returns-clause-counts : goal.returns-clause-counts
returns-clause-counts c W H later who n s t is was now = adopted_counts_never_fall c.lives_are_known.ensures W H later who n s t is was now
