use Rattle.pdc_align.proofs.Arrivals.{others_leave_it}
use Rattle.pdc_align.proofs.state_laws.others_leave_it.Goals as goal

pub returns : goal.returns
returns c g E e arrives h = others_leave_it g E e arrives h
