use Rattle.std.proofs.Common.{◌≡◌}
use Rattle.pdc_ports.specs.pdc_arrival.Counts.{counts_after}
use Rattle.pdc_hub.specs.Replay.{WasRead}
use Rattle.pdc_hub.proofs.Replays.{told_now}
use Rattle.pdc_hub.proofs.locked_core.LockedCore.counts_behind.Goals as goal

pub returns-clause-counts : goal.returns-clause-counts
returns-clause-counts g c =
    let old = c.args.self.now in
    told_now g.C.Core.rules (WasRead g.C.Settings.Reads.says g.C.Settings.Reads.fits g.N.Naming.settings) g.N.Naming.given (g.C.Core.stands_for old.core.base) (g.C.Core.stands_for old.core.state) old.core.log.seen.log c.look.new.me old.core.events.items (λ h E. c.counts.result ≡ counts_after E) c.look.ensures.seen c.counts.ensures.life old.core.replays
