use Rattle.std.proofs.Common.{rules, refl, ◌∙◌, ◌++◌, ◌∷◌, [], ◌≡◌}
use Rattle.std.proofs.Math.Logic.{∥∥₁_map}
use Rattle.pdc_core.specs.Step.{is_allowed}
use Rattle.pdc_core.specs.declared.step.CoreStep.TheVariants as step
use Rattle.pdc_life.specs.Answer.{ToTick}
use Rattle.pdc_hub.specs.Replay.{WasRead}
use Rattle.pdc_hub.proofs.Held.{still}
use Rattle.pdc_hub.proofs.Replays.{all_more, grown}
use Rattle.pdc_hub.proofs.replayed.Replayed.tick.Goals as goal

pub invariant_of-self : goal.invariant_of-self
invariant_of-self g c =
    let old = c.bring_up.new.self in
    let more : c.push.new.self.items ≡ old.events.items ++ step.Tick c.args.now c.args.counts.now ∷ [] = c.push.ensures.items in
    record {
      named = c.add.ensures.named;
      replays = ∥∥₁_map old.replays (grown g.C.Core.rules (WasRead g.C.Settings.Reads.says g.C.Settings.Reads.fits g.N.Naming.settings) g.N.Naming.given (g.C.Core.stands_for old.base) (g.C.Core.stands_for old.state) (g.C.Core.stands_for c.tick-ticked.new.self) old.log.seen.log c.add.new.self.seen.log old.events.items c.push.new.self.items (step.Tick c.args.now c.args.counts.now) (ToTick c.args.now c.args.counts.now) c.add.ensures.added more (refl, refl) tt c.tick-ticked.ensures.stands);
      base_settings = old.base_settings;
      state_settings = still g.N.Naming.settings (g.C.Core.settings_of old.state) (g.C.Core.settings_of c.tick-ticked.new.self) c.tick-ticked.ensures.settings old.state_settings;
      allowed = all_more (is_allowed (g.C.Settings.Reads.fits (g.C.Core.settings_of old.base))) old.events.items c.push.new.self.items (step.Tick c.args.now c.args.counts.now) more old.allowed refl;
      bounded = search rules;
      room = c.push.ensures.capacity ∙ old.room;
      some = old.some;
    }
