use Rattle.std.proofs.Common.{ℕ, List, [], get_or}
use Rattle.pdc_history.specs.Chains.{HavePassed}
use Rattle.pdc_history.specs.Told.{Tells}
use Rattle.pdc_history.proofs.Descent.{left}
use Rattle.pdc_history.proofs.looking_up.content_told.Given as goal

abbrev pub invariant-loop-next : goal.invariant-loop-next
invariant-loop-next l =
    HavePassed l.by_key.keys l.bucket (λ n. (x : List ℕ) → Tells l.settings l.pmu (get_or l.frames.frames n []) l.key x → ⊥) l.next

abbrev pub decreases-loop-next : goal.decreases-loop-next
decreases-loop-next l = left l.next
