use Rattle.pdc_service.proofs.serving.conduct.Goals.{else-is_begun, then-is_begun}
use Rattle.pdc_service.proofs.serving.conduct.Goals as goal

pub returns : goal.returns
returns g c = elim c.if-is_begun.branch [
  | then-is_begun w ↦ rw w.outcome-is w.run_observed-outcome.ensures
  | else-is_begun w ↦ rw w.outcome-is (w.not_begun-outcome.ensures c.args.serving.now.concentrator.now)
]
