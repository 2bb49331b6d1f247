use Rattle.std.proofs.Common.{arith, ◌∙◌, refl, sym}
use Rattle.pdc_life.specs.Answer.{ToTick}
use Rattle.pdc_hub.specs.Replay.{WasRead}
use Rattle.pdc_hub.proofs.Replays.{came_same, has_turned, turned_more}
use Rattle.pdc_hub.proofs.locked_core.LockedCore.tick.Goals as goal

pub invariant_of-self-clause-came_are : goal.invariant_of-self-clause-came_are
invariant_of-self-clause-came_are g c =
    let old = c.args.self.now in
    old.came_are ∙ sym (came_same old.core.log.seen.log c.tick-answer.new.self.log.seen.log (ToTick c.args.now c.args.counts.now) refl c.tick-answer.ensures.logged.added)

pub invariant_of-self-clause-turns_are : goal.invariant_of-self-clause-turns_are
invariant_of-self-clause-turns_are g c =
    let old = c.args.self.now in
    omega (arith, c.add.ensures.total, c.audit.ensures.total, old.turns_are, turned_more old.core.log.seen.log c.tick-answer.new.self.log.seen.log (ToTick c.args.now c.args.counts.now) refl c.tick-answer.ensures.logged.added)

pub returns-clause-turned : goal.returns-clause-turned
returns-clause-turned g c =
    let old = c.args.self.now in
    let pops = c.args.pops.now in
    has_turned g.C.Core.rules (WasRead g.C.Settings.Reads.says g.C.Settings.Reads.fits g.N.Naming.settings) g.N.Naming.given (g.C.Core.stands_for old.core.base) (g.C.Core.stands_for old.core.state) old.core.log.seen.log c.tick-answer.new.self.log.seen.log pops.front c.tick-answer.new.front old.core.events.items (ToTick c.args.now c.args.counts.now) c.step-step.result _ c.tick-answer.ensures.logged (omega (arith, pops.own, old.turns_are, c.audit.ensures.whole c.requires.0)) c.step-step.ensures (λ h E s. c.tick-answer.ensures.answer h E s) old.core.replays
