use Rattle.std.proofs.Common.{rules, refl, ◌∙◌, ◌++◌, ◌∷◌, [], ◌≡◌}
use Rattle.std.proofs.Math.Logic.{∥∥₁_map}
use Rattle.pdc_core.specs.Step.{is_allowed}
use Rattle.pdc_core.specs.declared.step.CoreStep.TheVariants as step
use Rattle.pdc_life.specs.Answer.{ToPop}
use Rattle.pdc_hub.specs.Replay.{WasRead}
use Rattle.pdc_hub.proofs.Held.{still, tagged}
use Rattle.pdc_hub.proofs.Replays.{all_more, grown}
use Rattle.pdc_hub.proofs.replayed.Replayed.pop_into.Goals as goal

pub invariant_of-self : goal.invariant_of-self
invariant_of-self g c =
    let old = c.bring_up.new.self in
    let more : c.push.new.self.items ≡ old.events.items ++ step.Pop ∷ [] = c.push.ensures.items in
    record {
      named = c.add.ensures.named;
      replays = ∥∥₁_map old.replays (grown g.C.Core.rules (WasRead g.C.Settings.Reads.says g.C.Settings.Reads.fits g.N.Naming.settings) g.N.Naming.given (g.C.Core.stands_for old.base) (g.C.Core.stands_for old.state) (g.C.Core.stands_for c.pop_into-is_some.new.self) old.log.seen.log c.add.new.self.seen.log old.events.items c.push.new.self.items (step.Pop) (ToPop) c.add.ensures.added more tt tt c.pop_into-is_some.ensures.stands);
      base_settings = old.base_settings;
      state_settings = still g.N.Naming.settings (g.C.Core.settings_of old.state) (g.C.Core.settings_of c.pop_into-is_some.new.self) c.pop_into-is_some.ensures.settings old.state_settings;
      allowed = all_more (is_allowed (g.C.Settings.Reads.fits (g.C.Core.settings_of old.base))) old.events.items c.push.new.self.items (step.Pop) more old.allowed refl;
      bounded = search rules;
      room = c.push.ensures.capacity ∙ old.room;
      some = old.some;
    }

pub returns-clause-tagged : goal.returns-clause-tagged
returns-clause-tagged g c is =
    let old = c.bring_up.new.self in
    tagged g.C.Core.rules (WasRead g.C.Settings.Reads.says g.C.Settings.Reads.fits g.N.Naming.settings) g.N.Naming.given (g.C.Core.stands_for old.base) (g.C.Core.stands_for old.state) old.log.seen.log old.events.items c.pop_into-is_some.new.row.value old.replays (λ h E s. search (rules, is, c.pop_into-is_some.ensures.next h E s))
