use Rattle.std.proofs.Common.{[], get_or}
use Rattle.std.specs.Prelude.{◌≢◌}
use Rattle.pdc_history.specs.Chains.{HavePassed}
use Rattle.pdc_history.proofs.Descent.{left}
use Rattle.pdc_history.proofs.looking_up.has_frame.Given as goal

abbrev pub invariant-loop-next : goal.invariant-loop-next
invariant-loop-next l = HavePassed l.by_check.keys l.bucket (λ n. get_or l.frames.frames n [] ≢ l.bytes) l.next

abbrev pub decreases-loop-next : goal.decreases-loop-next
decreases-loop-next l = left l.next
