use Rattle.std.proofs.Common.{arith, ◌∙◌, refl, sym}
use Rattle.pdc_life.specs.Answer.{ToPop}
use Rattle.pdc_hub.specs.Replay.{WasRead}
use Rattle.pdc_hub.proofs.Replays.{came_same, has_turned, turned_more}
use Rattle.pdc_hub.proofs.locked_core.LockedCore.pop.Goals as goal

pub invariant_of-self-2-clause-came_are : goal.invariant_of-self-2-clause-came_are
invariant_of-self-2-clause-came_are g c =
    let old = c.args.self.now in
    old.came_are ∙ sym (came_same old.core.log.seen.log c.pop_into-answer.new.self.log.seen.log ToPop refl c.pop_into-answer.ensures.logged.added)

pub invariant_of-self-2-clause-turns_are : goal.invariant_of-self-2-clause-turns_are
invariant_of-self-2-clause-turns_are g c =
    let old = c.args.self.now in
    omega (arith, c.add.ensures.total, c.audit-2.ensures.total, old.turns_are, turned_more old.core.log.seen.log c.pop_into-answer.new.self.log.seen.log ToPop refl c.pop_into-answer.ensures.logged.added)

pub invariant_of-self-clause-came_are : goal.invariant_of-self-clause-came_are
invariant_of-self-clause-came_are g c =
    let old = c.args.self.now in
    old.came_are ∙ sym (came_same old.core.log.seen.log c.pop_into-answer.new.self.log.seen.log ToPop refl c.pop_into-answer.ensures.logged.added)

pub invariant_of-self-clause-turns_are : goal.invariant_of-self-clause-turns_are
invariant_of-self-clause-turns_are g c =
    let old = c.args.self.now in
    omega (arith, c.add.ensures.total, c.audit-2.ensures.total, old.turns_are, turned_more old.core.log.seen.log c.pop_into-answer.new.self.log.seen.log ToPop refl c.pop_into-answer.ensures.logged.added)

pub returns-clause-turned : goal.returns-clause-turned
returns-clause-turned g c =
    let old = c.args.self.now in
    let pops = c.args.pops.now in
    has_turned g.C.Core.rules (WasRead g.C.Settings.Reads.says g.C.Settings.Reads.fits g.N.Naming.settings) g.N.Naming.given (g.C.Core.stands_for old.core.base) (g.C.Core.stands_for old.core.state) old.core.log.seen.log c.pop_into-answer.new.self.log.seen.log pops.front c.pop_into-answer.new.front old.core.events.items ToPop c.step-step.result _ c.pop_into-answer.ensures.logged (omega (arith, pops.own, old.turns_are, c.audit-2.ensures.whole c.requires.turns.0)) c.step-step.ensures (λ h E s. c.pop_into-answer.ensures.answer h E s) old.core.replays

pub returns-then-not-answer-clause-turned : goal.returns-then-not-answer-clause-turned
returns-then-not-answer-clause-turned g c =
    let old = c.args.self.now in
    let pops = c.args.pops.now in
    has_turned g.C.Core.rules (WasRead g.C.Settings.Reads.says g.C.Settings.Reads.fits g.N.Naming.settings) g.N.Naming.given (g.C.Core.stands_for old.core.base) (g.C.Core.stands_for old.core.state) old.core.log.seen.log c.pop_into-answer.new.self.log.seen.log pops.front c.pop_into-answer.new.front old.core.events.items ToPop c.step-step.result _ c.pop_into-answer.ensures.logged (omega (arith, pops.own, old.turns_are, c.audit-2.ensures.whole c.requires.turns.0)) c.step-step.ensures (λ h E s. c.pop_into-answer.ensures.answer h E s) old.core.replays
