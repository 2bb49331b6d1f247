use Rattle.pdc_align.proofs.Follows.{left}
use Rattle.pdc_align.proofs.laws.others_are_left.Goals as goal

pub returns : goal.returns
returns c g E a s bytes arrival answer stands is_left run = left c.others_leave_it.ensures g E a s bytes arrival answer stands is_left run
