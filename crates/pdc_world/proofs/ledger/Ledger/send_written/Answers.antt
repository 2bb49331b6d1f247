use Rattle.std.proofs.Common.{List, subst, ℕ}
use Rattle.pdc_world.proofs.Names.{IsOfPmu}
use Rattle.pdc_world.proofs.ledger.Ledger.send_written.Goals as goal

pub push_reserved-requires-clause-of_none : goal.push_reserved-requires-clause-of_none
push_reserved-requires-clause-of_none c =
    λ p pmu of_pmu. c.requires.of_none p pmu (subst (λ (bytes : List ℕ). IsOfPmu c.args.self.now.sent.settings p pmu bytes) c.as_slice.ensures.value of_pmu)
