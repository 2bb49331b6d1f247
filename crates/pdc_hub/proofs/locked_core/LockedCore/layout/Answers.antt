use Rattle.std.proofs.Common.{rules, ◌≡◌, ◌++◌}
use Rattle.pdc_life.specs.Published.{layout_wire}
use Rattle.pdc_hub.specs.Replay.{WasRead}
use Rattle.pdc_hub.proofs.Replays.{told_now}
use Rattle.pdc_hub.proofs.locked_core.LockedCore.layout.Goals as goal

pub returns-in-Ok-clause-layout : goal.returns-in-Ok-clause-layout
returns-in-Ok-clause-layout g c =
    let old = c.args.self.now in
    told_now g.C.Core.rules (WasRead g.C.Settings.Reads.says g.C.Settings.Reads.fits g.N.Naming.settings) g.N.Naming.given (g.C.Core.stands_for old.core.base) (g.C.Core.stands_for old.core.state) old.core.log.seen.log c.show.new.pops.front old.core.events.items (λ h E. g.B.Buffer.content c.layout_frame.new.out ≡ g.B.Buffer.content c.args.out.now ++ layout_wire h E c.args.soc)
    c.show.ensures.seen (λ h E s. search (rules, c.show.ensures.core, c.in-Ok.ensures.ok h E, s)) old.core.replays
