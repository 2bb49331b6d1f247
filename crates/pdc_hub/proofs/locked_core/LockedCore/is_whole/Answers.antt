use Rattle.std.proofs.Common.{◌≡◌}
use Rattle.pdc_life.specs.Row.{is_whole}
use Rattle.pdc_hub.specs.Replay.{WasRead}
use Rattle.pdc_hub.proofs.Replays.{told_now}
use Rattle.pdc_hub.proofs.locked_core.LockedCore.is_whole.Goals as goal

pub returns-clause-whole : goal.returns-clause-whole
returns-clause-whole g c =
    let old = c.args.self.now in
    told_now g.C.Core.rules (WasRead g.C.Settings.Reads.says g.C.Settings.Reads.fits g.N.Naming.settings) g.N.Naming.given (g.C.Core.stands_for old.core.base) (g.C.Core.stands_for old.core.state) old.core.log.seen.log c.look.new.me old.core.events.items (λ h E. c.is_whole.result ≡ is_whole h E) c.look.ensures.seen c.is_whole.ensures old.core.replays
