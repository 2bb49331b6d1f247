use Rattle.pdc_history.proofs.Worlds.{none_is_added, one_is_added}
use Rattle.pdc_history.proofs.sent_laws.frames_follow_histories.Goals as goal

pub returns-clause-one : goal.returns-clause-one
returns-clause-one c W H h v bytes has sends = one_is_added W H h v bytes has sends

pub returns-clause-none : goal.returns-clause-none
returns-clause-none c W H h v has sends = none_is_added W H h v has sends
