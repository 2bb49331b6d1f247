use Rattle.pdc_history.proofs.{Lives.{lives_are_lives}, Rows.{rows_are_of_lives}, RowsAt.{published_rows_are_those}}
use Rattle.pdc_history.proofs.laws.lives_are_lives.Goals as goal

pub returns-clause-lives : goal.returns-clause-lives
returns-clause-lives c W H who is = lives_are_lives W H who is

pub returns-clause-rows : goal.returns-clause-rows
returns-clause-rows c W H who is = rows_are_of_lives W H who is

pub returns-clause-moments : goal.returns-clause-moments
returns-clause-moments c W H is = published_rows_are_those c.lives_are_known.ensures W H is
