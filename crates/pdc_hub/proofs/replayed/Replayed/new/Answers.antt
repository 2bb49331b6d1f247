use Rattle.std.proofs.Common.{rules}
use Rattle.pdc_hub.specs.Replay.{WasRead}
use Rattle.pdc_hub.proofs.Replays.{opened}
use Rattle.pdc_hub.proofs.replayed.Replayed.new.Goals as goal

pub invariant_of-result : goal.invariant_of-result
invariant_of-result g c =
    let a = c.requires.alike in
    record {
      named = c.requires.log.0;
      replays = ∣ opened g.C.Core.rules (WasRead g.C.Settings.Reads.says g.C.Settings.Reads.fits g.N.Naming.settings) g.N.Naming.given (g.C.Core.stands_for c.args.base) (g.C.Core.stands_for c.args.state) c.args.log.seen.log _ c.requires.log.1 (search rules) a.0 a.1 a.2 a.3 ∣₁;
      base_settings = ∣ c.requires.settings.0 ∣₁;
      state_settings = ∣ c.requires.settings.1 ∣₁;
      allowed = search rules;
      bounded = search rules;
      room = search rules;
      some = c.requires.limit;
    }
