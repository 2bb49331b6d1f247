use Rattle.pdc_hub.specs.Replay.{WasRead}
use Rattle.pdc_hub.proofs.Replays.{all_said}
use Rattle.pdc_hub.proofs.locked_core.LockedCore.totals.Goals as goal

pub returns-clause-said : goal.returns-clause-said
returns-clause-said g c =
    let old = c.args.self.now in
    all_said g.C.Core.rules (WasRead g.C.Settings.Reads.says g.C.Settings.Reads.fits g.N.Naming.settings) g.N.Naming.given (g.C.Core.stands_for old.core.base) (g.C.Core.stands_for old.core.state) old.core.log.seen.log c.show.new.pops.front old.core.events.items c.show.ensures.seen old.core.replays
