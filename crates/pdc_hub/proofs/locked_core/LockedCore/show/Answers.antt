use Rattle.std.proofs.Common.{arith}
use Rattle.pdc_hub.proofs.Replays.{looked}
use Rattle.pdc_hub.proofs.locked_core.LockedCore.show.Goals as goal

pub returns-clause-looked : goal.returns-clause-looked
returns-clause-looked g c =
    let old = c.args.self.now in
    let pops = c.args.pops.now in
    looked pops.front old.core.log.seen.log c.look.new.me c.look.ensures.later (omega (arith, pops.own, old.turns_are, c.audit.ensures.whole c.requires.0)) c.look.ensures.seen
