use Rattle.std.proofs.Common.{rules, ap, ◌∙◌}
use Rattle.std.proofs.Math.Logic.{∥∥₁_map}
use Rattle.pdc_hub.specs.Replay.{WasRead}
use Rattle.pdc_hub.proofs.Held.{still}
use Rattle.pdc_hub.proofs.Replays.{alike, rebased}
use Rattle.pdc_hub.proofs.replayed.Replayed.bring_up.Goals as goal

pub copy_from-requires : goal.copy_from-requires
copy_from-requires g c =
    let old = c.args.self.now in
    ∥∥₁_map old.replays (alike g.C.Core.rules (WasRead g.C.Settings.Reads.says g.C.Settings.Reads.fits g.N.Naming.settings) g.N.Naming.given (g.C.Core.stands_for old.base) (g.C.Core.stands_for old.state) old.log.seen.log old.events.items)

pub invariant_of-self-2 : goal.invariant_of-self-2
invariant_of-self-2 g c =
    let old = c.args.self.now in
    record {
      named = old.named;
      replays = ∥∥₁_map old.replays (rebased g.C.Core.rules (WasRead g.C.Settings.Reads.says g.C.Settings.Reads.fits g.N.Naming.settings) g.N.Naming.given (g.C.Core.stands_for old.base) (g.C.Core.stands_for old.state) (g.C.Core.stands_for c.copy_from.new.self) old.log.seen.log old.events.items c.clear.new.self.items (ap (λ h. h.items) c.clear.ensures) c.copy_from.ensures.stands);
      base_settings = still g.N.Naming.settings (g.C.Core.settings_of old.state) (g.C.Core.settings_of c.copy_from.new.self) c.copy_from.ensures.settings old.state_settings;
      state_settings = old.state_settings;
      allowed = search rules;
      bounded = search rules;
      room = ap (λ h. h.capacity) c.clear.ensures ∙ old.room;
      some = old.some;
    }
