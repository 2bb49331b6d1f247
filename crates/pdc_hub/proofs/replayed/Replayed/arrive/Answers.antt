use Rattle.std.proofs.Common.{rules, ◌∙◌}
use Rattle.pdc_core.specs.Step.{is_allowed}
use Rattle.pdc_core.specs.Lent.{brought_view}
use Rattle.pdc_life.specs.Arrival.{Arrival}
use Rattle.pdc_hub.specs.Kept.{KeepsArrival}
use Rattle.pdc_hub.proofs.Held.{arrived, is_allowed_kept, still, suits}
use Rattle.pdc_hub.proofs.Replays.{all_more}
use Rattle.pdc_hub.proofs.replayed.Replayed.arrive.Goals as goal

pub kept-requires-clause-fits : goal.kept-requires-clause-fits
kept-requires-clause-fits g c =
    suits g.C.Settings.Reads.says g.C.Settings.Reads.fits g.N.Naming.settings c.args.stream c.args.bytes.now (brought_view c.args.lent.now c.args.taken.now) (g.C.Core.settings_of c.bring_up.new.self.state) c.requires.read c.bring_up.new.self.state_settings

pub invariant_of-self : goal.invariant_of-self
invariant_of-self g c =
    let old = c.bring_up.new.self in
    let arrival : Arrival = brought_view c.args.lent.now c.args.taken.now in
    let keeps : KeepsArrival c.args.stream arrival old.events.items c.kept.new.events.items = c.kept.ensures.event in
    record {
      named = c.add.ensures.named;
      replays = arrived {S = g.row.C-Settings.Denot} g.C.Settings.Reads.says g.C.Settings.Reads.fits g.N.Naming.settings g.C.Core.rules g.N.Naming.given (g.C.Core.stands_for old.base) (g.C.Core.stands_for old.state) (g.C.Core.stands_for c.kept.new.state) (g.C.Core.settings_of old.state) old.log.seen.log c.add.new.self.seen.log old.events.items c.kept.new.events.items c.args.stream c.args.bytes.now arrival c.requires.read old.state_settings c.add.ensures.added keeps (c.kept.ensures.stands c.args.bytes.now) old.replays;
      base_settings = old.base_settings;
      state_settings = still g.N.Naming.settings (g.C.Core.settings_of old.state) (g.C.Core.settings_of c.kept.new.state) c.kept.ensures.settings old.state_settings;
      allowed = all_more (is_allowed (g.C.Settings.Reads.fits (g.C.Core.settings_of old.base))) old.events.items c.kept.new.events.items keeps.step keeps.added old.allowed (is_allowed_kept (g.C.Settings.Reads.fits (g.C.Core.settings_of old.base)) c.args.stream arrival keeps.step keeps.kept (suits g.C.Settings.Reads.says g.C.Settings.Reads.fits g.N.Naming.settings c.args.stream c.args.bytes.now arrival (g.C.Core.settings_of old.base) c.requires.read old.base_settings));
      bounded = search rules;
      room = c.kept.ensures.capacity ∙ old.room;
      some = old.some;
    }
