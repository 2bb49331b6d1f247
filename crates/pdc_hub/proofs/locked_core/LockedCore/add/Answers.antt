use Rattle.std.proofs.Common.{arith, ◌≡◌, ◌∙◌, List, refl, subst, sym}
use Rattle.pdc_core.specs.Lent.{brought_view}
use Rattle.pdc_life.specs.Answer.{ReadStep, ToArrive}
use Rattle.pdc_log.specs.Log.{HasAdded}
use Rattle.pdc_hub.specs.Replay.{WasRead}
use Rattle.pdc_hub.proofs.Replays.{came_more, has_added, turned_same}
use Rattle.pdc_hub.proofs.locked_core.LockedCore.add.Goals as goal

pub invariant_of-self-clause-came_are : goal.invariant_of-self-clause-came_are
invariant_of-self-clause-came_are g c =
    let old = c.args.self.now in
    omega (arith, c.count.ensures.once, old.came_are, came_more old.core.log.seen.log c.arrive-outcome.new.self.log.seen.log c.args.stream c.args.bytes.now (brought_view c.args.lent.now c.args.datagram.now) c.arrive-outcome.ensures.logged.added)

pub invariant_of-self-clause-turns_are : goal.invariant_of-self-clause-turns_are
invariant_of-self-clause-turns_are g c =
    let old = c.args.self.now in
    old.turns_are ∙ sym (turned_same old.core.log.seen.log c.arrive-outcome.new.self.log.seen.log (ToArrive c.args.stream c.args.bytes.now (brought_view c.args.lent.now c.args.datagram.now)) refl c.arrive-outcome.ensures.logged.added)

pub returns-clause-added : goal.returns-clause-added
returns-clause-added g c =
    let old = c.args.self.now in
    subst (λ (seen : List ReadStep). HasAdded g.C.Core.rules g.N.Naming.given (ToArrive c.args.stream c.args.bytes.now (brought_view c.args.lent.now c.args.datagram.now)) c.args.mine.now.front seen c.step-step.result (λ h E. c.arrive-outcome.result ≡ (g.C.Core.rules h E c.args.stream (brought_view c.args.lent.now c.args.datagram.now)).outcome)) (sym c.count.ensures.front)
    (has_added g.C.Core.rules (WasRead g.C.Settings.Reads.says g.C.Settings.Reads.fits g.N.Naming.settings) g.N.Naming.given (g.C.Core.stands_for old.core.base) (g.C.Core.stands_for old.core.state) old.core.log.seen.log c.arrive-outcome.new.self.log.seen.log c.args.mine.now.front c.arrive-outcome.new.front old.core.events.items (ToArrive c.args.stream c.args.bytes.now (brought_view c.args.lent.now c.args.datagram.now)) c.step-step.result _ c.arrive-outcome.ensures.logged c.step-step.ensures (λ h E s. c.arrive-outcome.ensures.answer h E s) old.core.replays)
