use Rattle.std.proofs.Common.{rules, ◌≡◌}
use Rattle.pdc_life.specs.Answer.{waiting_counts}
use Rattle.pdc_hub.specs.Replay.{WasRead}
use Rattle.pdc_hub.proofs.Replays.{told_now}
use Rattle.pdc_hub.proofs.locked_core.LockedCore.waiting.Goals as goal

pub returns-clause-waits : goal.returns-clause-waits
returns-clause-waits g c =
    let old = c.args.self.now in
    told_now g.C.Core.rules (WasRead g.C.Settings.Reads.says g.C.Settings.Reads.fits g.N.Naming.settings) g.N.Naming.given (g.C.Core.stands_for old.core.base) (g.C.Core.stands_for old.core.state) old.core.log.seen.log c.show.new.pops.front old.core.events.items (λ h E. c.waiting.result ≡ waiting_counts h E) c.show.ensures.seen (λ h E s. search (rules, c.show.ensures.core, c.waiting.ensures h E, s)) old.core.replays
